-- In a body d deep, at most k second turns open at once cost no more than as many plays as there are choices of at most k out of d levels:
-- for 8 levels and 2 second turns, 37 times what it costs to play every Loop once.
use mathlib.Core.Path.{◌≡◌}
use Prim.Native.Nat.{ℕ, zero, suc, ◌+◌, ◌*◌, ◌≤◌}
use native.Mathlib.Nat.{le_trans, mul-add, add-mul, suc-mul, mul-one, mul_left_comm, mul-le-mul_left, mul-le-mul_right}
use native.Mathlib.Omega.{arith}
use mathlib.Core.List.{List}
use lib.ListN.{length, length-append}
use Rattle.tokens.specs.Tokens.{Toks, toks}
use Rattle.meaning.specs.Bounds.{depth_most}
use Rattle.meaning.specs.Reader.{ok}
use Rattle.meaning.specs.Body.{macro, procedure, listed, Way, looped, shifted, entered, Body, done, vec, set', inner, depth}
use Rattle.meaning.specs.Document.{Read, document}
use Rattle.meaning.specs.Run.{shift_of, State, Played, puts, changed, follow, again, entering}
use Rattle.meaning.specs.Meaning.{given, run_of}
use Rattle.meaning.proofs.Everywhere.{Runs, no_more, one_more_lem, runs}
use Rattle.meaning.proofs.Depth.{patterns_within}
use Rattle.turns.specs.Few.{loop_few, playing_few, play_few, open_most}
use Rattle.turns.specs.Steps.{loop_steps, in_steps, steps, choices}

choices_one : (d k : ℕ) → 1 ≤ choices d k
unfolding choices
choices_one zero zero = omega arith
choices_one (suc d) zero = omega arith
choices_one zero (suc k) = omega arith
choices_one (suc d) (suc k) = omega (arith, choices_one d k)

choices_deeper : (d k : ℕ) → choices d k ≤ choices (suc d) k
unfolding choices
choices_deeper zero zero = omega arith
choices_deeper (suc d) zero = omega arith
choices_deeper zero (suc k) = omega arith
choices_deeper (suc d) (suc k) = omega arith

-- g goes through, with k open, at most choices d k times as much as with none
abbrev Grows : ℕ → (ℕ → ℕ) → Type 0
Grows d g = (k : ℕ) → g k ≤ choices d k * g 0

grows_deeper : (d : ℕ) (g : ℕ → ℕ) → Grows d g → Grows (suc d) g
grows_deeper d g h k = le_trans (h k) (mul-le-mul_right (g 0) (choices_deeper d k))

grows_sum : (d : ℕ) (f g : ℕ → ℕ) → Grows d f → Grows d g → Grows d (λ k. f k + g k)
grows_sum d f g h h' k = rw mul-add (omega (arith, h k, h' k))

-- a statement itself
grows_one : (d : ℕ) → Grows d (λ k. 1)
grows_one d k = rw mul-one (choices_one d k)

grows_loop : (d n : ℕ) (g : ℕ → ℕ) → Grows d g → Grows (suc d) (λ k. loop_steps n k g)
unfolding loop_steps choices
grows_loop d zero g h k = omega arith
grows_loop d (suc zero) g h k = grows_deeper d g h k
grows_loop d (suc (suc n)) g h zero = omega arith
grows_loop d (suc (suc n)) g h (suc k) = rw add-mul (omega (arith, h (suc k), h k))

grows_in : (d t : ℕ) (w : Way) (g : ℕ → ℕ) → Grows d g → Grows (suc d) (λ k. in_steps k t w g)
unfolding in_steps
grows_in d t (looped n) g h k = grows_loop d n g h k
grows_in d t shifted g h k = rw mul_left_comm (mul-le-mul_left t (grows_deeper d g h k))
grows_in d t (entered kind u a) g h k = grows_deeper d g h k

-- THE BOUND
pub steps_within : (d : ℕ) (b : Body) → depth b ≤ d → (t k : ℕ) → steps k t b ≤ choices d k * steps 0 t b
unfolding depth steps
steps_within d done h t k = omega arith
steps_within d (vec p a r) h t k = grows_sum d (λ k. 1) (λ k. steps k t r) (grows_one d) (steps_within d r h t) k
steps_within d (set' x r) h t k = grows_sum d (λ k. 1) (λ k. steps k t r) (grows_one d) (steps_within d r h t) k
steps_within zero (inner w b r) h t k = absurd (omega arith)
steps_within (suc d) (inner w b r) h t k =
    let u = shift_of t w in
    let within = grows_in d t w (λ j. steps j u b) (steps_within d b (omega arith) u) in
    grows_sum (suc d) (λ k. 1 + in_steps k t w λ j. steps j u b) (λ k. steps k t r)
    (grows_sum (suc d) (λ k. 1) (λ k. in_steps k t w λ j. steps j u b) (grows_one (suc d)) within)
    (steps_within (suc d) r (omega arith) t) k

-- a body 8 deep: at most 37 times the statements gone through where every Loop is played once
pub few_steps : (b : Body) → depth b ≤ depth_most → (t : ℕ) → steps open_most t b ≤ 37 * steps 0 t b
unfolding choices
few_steps b h t = steps_within depth_most b h t open_most

-- a run is its patterns one after the other: no Loop is around them
run_steps : (d : ℕ) {r : Body} → Runs (λ b. depth b ≤ d) r → (k : ℕ) → steps k 0 r ≤ choices d k * steps 0 0 r
unfolding steps in_steps shift_of
run_steps d no_more k = omega arith
run_steps d (one_more_lem {b} {r} p h) k =
    grows_sum d (λ k. 1 + steps k 0 b) (λ k. steps k 0 r) (grows_sum d (λ k. 1) (λ k. steps k 0 b) (grows_one d) (steps_within d b p 0)) (run_steps d h) k

-- and so the run of every text
pub run_few_steps : (text : List ℕ) (d : Read) (ts : Toks) (r : Body) → document (toks text 0) ≡ ok d ts → run_of d.patterns d.listed ≡ given r
    → steps open_most 0 r ≤ 37 * steps 0 0 r
unfolding choices
run_few_steps text d ts r e f = run_steps depth_most (runs _ d.patterns (patterns_within.all _ _ _ e) d.listed r f) open_most

-- ---- each cycle that is made is a step

-- whatever the state before, f makes at most m cycles
abbrev Makes : (State → Played) → ℕ → Type 0
Makes f m = (s : State) → length (f s).1 ≤ m

makes_then : (f g : State → Played) (m n : ℕ) → Makes f m → Makes g n → Makes (λ s. follow (f s) g) (m + n)
unfolding follow
makes_then f g m n h k s = rw length-append (omega (arith, h s, k (f s).0))

makes_again : (n : ℕ) (f : State → Played) (m : ℕ) → Makes f m → Makes (again n f) (n * m)
unfolding again
makes_again zero f m h s = omega arith
makes_again (suc n) f m h s = rw suc-mul (omega (arith, makes_then f (again n f) m (n * m) h (makes_again n f m h) s))

makes_loop : (n k : ℕ) (f : ℕ → State → Played) (g : ℕ → ℕ) → ((j : ℕ) → Makes (f j) (g j)) → Makes (loop_few n k f) (loop_steps n k g)
unfolding loop_few loop_steps
makes_loop zero k f g h s = omega arith
makes_loop (suc zero) k f g h s = h k s
makes_loop (suc (suc n)) zero f g h s = h 0 s
makes_loop (suc (suc n)) (suc k) f g h s = makes_then (f (suc k)) (f k) (g (suc k)) (g k) (h (suc k)) (h k) s

makes_in : (k t : ℕ) (w : Way) (f : ℕ → State → Played) (g : ℕ → ℕ) → ((j : ℕ) → Makes (f j) (g j)) → Makes (playing_few k t w f) (in_steps k t w g)
unfolding playing_few in_steps entering
makes_in k t (looped n) f g h s = makes_loop n k f g h s
makes_in k t shifted f g h s = makes_again t (f k) (g k) (h k) s
makes_in k t (entered macro u a) f g h s = h k _
makes_in k t (entered procedure u a) f g h s = h k _
makes_in k t (entered listed u a) f g h s = h k _

pub cycles_within : (b : Body) (k t : ℕ) (s : State) → length (play_few k t b s).1 ≤ steps k t b
unfolding play_few steps follow
cycles_within done k t s = omega arith
cycles_within (vec p a r) k t s = omega (arith, cycles_within r k t (puts a s))
cycles_within (set' x r) k t s = omega (arith, cycles_within r k t (changed x s))
cycles_within (inner w b r) k t s =
    let u = shift_of t w in
    let m = in_steps k t w λ j. steps j u b in
    omega (arith, makes_then (playing_few k t w λ j. play_few j u b) (play_few k t r) m (steps k t r) (makes_in k t w _ _ λ j. cycles_within b j u) (cycles_within r k t) s)
