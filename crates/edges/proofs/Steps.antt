-- What it costs to find the first failing pair: in a body 8 deep at most 511 times the statements gone through where every Loop is played once.
use mathlib.Core.Path.{◌≡◌, refl}
use Prim.Native.Nat.{ℕ, zero, suc, ◌+◌, ◌*◌, ◌≤◌}
use native.Mathlib.Nat.{le_trans, mul-add, add-mul, one-mul, mul-one, mul_left_comm, mul-le-mul_left, mul-le-mul_right}
use native.Mathlib.Omega.{arith}
use mathlib.Core.List.{List}
use Rattle.meaning.specs.Bounds.{depth_most}
use Rattle.meaning.specs.Body.{Way, looped, shifted, entered, Body, done, vec, set', inner, depth}
use Rattle.meaning.specs.Run.{shift_of}
use Rattle.meaning.specs.Document.{Read}
use Rattle.meaning.proofs.Everywhere.{Runs, no_more, one_more_lem, runs}
use Rattle.meaning.proofs.Depth.{patterns_within}
use Rattle.turns.specs.Steps.{loop_steps, in_steps, steps}
use Rattle.edges.specs.Steps.{loop_pairs, in_pairs, pair_steps, worth}
use Rattle.edges.proofs.Texts.{RunOf}

worth_one : (d : ℕ) → 1 ≤ worth d
unfolding worth
worth_one zero = omega arith
worth_one (suc d) = omega arith

worth_deeper : (d h : ℕ) → worth d * h ≤ worth (suc d) * h
unfolding worth
worth_deeper d h = mul-le-mul_right h (omega arith)

-- two turns and an opening
worth_loop : (d h : ℕ) → (worth d * h + worth d * h) + h ≡ worth (suc d) * h
unfolding worth
worth_loop d h = sum (worth d) h
  where
    sum : (w h : ℕ) → (w * h + w * h) + h ≡ ((w + w) + 1) * h
    sum w h = rw (add-mul, add-mul, one-mul) refl

grows_sum : (d f f' g g' : ℕ) → f ≤ worth d * f' → g ≤ worth d * g' → f + g ≤ worth d * (f' + g')
grows_sum d f f' g g' h k = rw mul-add (omega (arith, h, k))

-- a statement itself
grows_one : (d g g' : ℕ) → g ≤ worth d * g' → 1 + g ≤ worth d * (1 + g')
grows_one d g g' h = rw (mul-add, mul-one) (omega (arith, h, worth_one d))

grows_loop : (d n : ℕ) (h : ℕ → ℕ) (g : ℕ) → g ≤ worth d * h 0 → loop_pairs n g (h 0) ≤ worth (suc d) * loop_steps n 0 h
unfolding loop_pairs loop_steps
grows_loop d zero h g e = omega arith
grows_loop d (suc zero) h g e = le_trans e (worth_deeper d (h 0))
grows_loop d (suc (suc zero)) h g e = omega (arith, e, worth_loop d (h 0))
grows_loop d (suc (suc (suc n))) h g e = omega (arith, e, worth_loop d (h 0))

grows_in : (d t : ℕ) (w : Way) (h : ℕ → ℕ) (g : ℕ) → g ≤ worth d * h 0 → in_pairs t w g (h 0) ≤ worth (suc d) * in_steps 0 t w h
unfolding in_pairs in_steps
grows_in d t (looped n) h g e = grows_loop d n h g e
grows_in d t shifted h g e = rw mul_left_comm (mul-le-mul_left t (le_trans e (worth_deeper d (h 0))))
grows_in d t (entered kind u a) h g e = le_trans e (worth_deeper d (h 0))

-- THE BOUND
pub pairs_within : (d : ℕ) (b : Body) → depth b ≤ d → (t : ℕ) → pair_steps t b ≤ worth d * steps 0 t b
unfolding depth pair_steps steps
pairs_within d done h t = omega arith
pairs_within d (vec p a r) h t = grows_one d (pair_steps t r) (steps 0 t r) (pairs_within d r h t)
pairs_within d (set' x r) h t = grows_one d (pair_steps t r) (steps 0 t r) (pairs_within d r h t)
pairs_within zero (inner w b r) h t = absurd (omega arith)
pairs_within (suc d) (inner w b r) h t =
    let u = shift_of t w in
    grows_sum (suc d) _ (1 + in_steps 0 t w λ j. steps j u b) _ (steps 0 t r)
    (grows_one (suc d) _ (in_steps 0 t w λ j. steps j u b) (grows_in d t w (λ j. steps j u b) (pair_steps u b) (pairs_within d b (omega arith) u)))
    (pairs_within (suc d) r (omega arith) t)

run_within : (d : ℕ) {r : Body} → Runs (λ b. depth b ≤ d) r → pair_steps 0 r ≤ worth d * steps 0 0 r
unfolding pair_steps in_pairs steps in_steps shift_of
run_within d no_more = omega arith
run_within d (one_more_lem {b} {r} p h) =
    grows_sum d _ (1 + steps 0 0 b) _ (steps 0 0 r) (grows_one d (pair_steps 0 b) (steps 0 0 b) (pairs_within d b p 0)) (run_within d h)

-- and so of every text that is read
pub run_pairs : (text : List ℕ) {d : Read} {r : Body} → RunOf text d r → pair_steps 0 r ≤ 511 * steps 0 0 r
unfolding worth
run_pairs text {d} {r} x = run_within depth_most (runs _ d.patterns (patterns_within.all _ _ _ x.read) d.listed r x.run)
