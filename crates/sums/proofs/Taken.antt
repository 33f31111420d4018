-- What bodies take of arguments: a character for each `#`, from the front.
use Prim.Native.Nat.{ℕ, zero, suc, ◌+◌, ◌*◌}
use native.Mathlib.Nat.{mul-add, suc-mul, zero-mul}
use native.Mathlib.Omega.{arith}
use mathlib.Core.Path.{◌≡◌, refl, sym, ap, ◌∙◌}
use mathlib.Core.Bool.{Bool, true, false}
use mathlib.Core.List.{List, [], ◌∷◌, ◌++◌, append_assoc}
use lib.ListN.{drop}
use lib.Seq.{drop-drop}
use lib.Dec.{eqb}
use Rattle.meaning.specs.Lists.{has, count, repeats}
use Rattle.meaning.specs.Body.{Assigns, Args, Body, done, vec, set', inner, marked, outside, shifting, arg_of}
use Rattle.meaning.specs.Run.{shift_of, State, Cycle, Played, puts, cycle_at, follow, again, playing, play}
use Rattle.meaning.proofs.Turns.{Plain, plain_way}
use Rattle.walks.specs.Turns.{vector, lost, lost_all}
use Rattle.walks.proofs.Arguments.{arg_kept, arg_skipped}
use Rattle.walks.proofs.Shifts.{puts_args}
use Rattle.measures.specs.Measures.{joined}
use Rattle.measures.proofs.Uses.{outside_joined, shifting_joined}
use Rattle.measures.proofs.Counting.{count_append}
use Rattle.sums.specs.Sums.{due}

-- ---- assignments

module _ (i : ℕ) where
  arg_lost : (ss : List ℕ) (A : Args) → arg_of i (lost_all 1 ss A) ≡ drop (count i ss) (arg_of i A)
  unfolding lost_all has repeats count
  arg_lost [] A = refl
  arg_lost (u ∷ ss) A = by (eqb u i) refl (arg_lost ss (lost 1 u A))
    where
      by : (w : Bool) → eqb u i ≡ w → arg_of i (lost_all 1 ss (lost 1 u A)) ≡ drop (count i ss) (arg_of i (lost 1 u A))
          → arg_of i (lost_all 1 ss (lost 1 u A)) ≡ drop (elim w [ true ↦ suc (count i ss) | false ↦ count i ss ]) (arg_of i A)
      by true e ih =
          let n : 1 + count i ss ≡ suc (count i ss) = omega arith in
          ih ∙ ap (drop (count i ss)) (arg_skipped 1 i (u ∷ []) A refl (rw e)) ∙ drop-drop (count i ss) 1 (arg_of i A) ∙ ap (λ (k : ℕ). drop k (arg_of i A)) n
      by false e ih = ih ∙ ap (drop (count i ss)) (arg_kept 1 i (u ∷ []) A (rw e))

  pub arg_puts : (a : Assigns) (s : State) → arg_of i (puts a s).args ≡ drop (count i (marked a)) (arg_of i s.args)
  arg_puts a s = ap (arg_of i) (puts_args a s) ∙ arg_lost (marked a) s.args

  -- the turns of a Shift
  pub arg_turns : (p : ℕ) (a : Assigns) (t : ℕ) (s : State) → arg_of i (again t (vector p a) s).0.args ≡ drop (t * count i (marked a)) (arg_of i s.args)
  unfolding again follow
  arg_turns p a zero s = rw zero-mul
  arg_turns p a (suc t) s =
      let m = count i (marked a) in
      let n : m + t * m ≡ suc t * m = omega (arith, suc-mul t m) in
      arg_turns p a t (puts a s) ∙ ap (drop (t * m)) (arg_puts a s) ∙ drop-drop (t * m) m (arg_of i s.args) ∙ ap (λ (k : ℕ). drop k (arg_of i s.args)) n

-- ---- statements behind statements

pub play_joined : (t : ℕ) (a b : Body) (s : State) → play t (joined a b) s ≡ follow (play t a s) (play t b)
unfolding play joined follow
play_joined t done b s = refl
play_joined t (vec p a r) b s = ap (λ (y : Played). (y.0, cycle_at p (puts a s) ∷ y.1)) (play_joined t r b (puts a s))
play_joined t (set' x r) b s = play_joined t r b _
play_joined t (inner w c r) b s =
    let x = playing t w (play (shift_of t w) c) s in
    let y = play t r x.0 in
    let z = play t b y.0 in
    ap (λ (u : Played). (u.0, x.1 ++ u.1)) (play_joined t r b x.0) ∙ ap (λ (l : List Cycle). (z.0, l)) (sym (append_assoc x.1 y.1 z.1))

pub due_joined : (t : ℕ) (a b : Body) (i : ℕ) → due t (joined a b) i ≡ due t a i + due t b i
unfolding due
due_joined t a b i =
    let o = ap (count i) (outside_joined a b) ∙ count_append i (outside a) (outside b) in
    let h = ap (λ (k : ℕ). t * k) (ap (count i) (shifting_joined a b) ∙ count_append i (shifting a) (shifting b)) ∙ mul-add t (count i (shifting a)) (count i (shifting b)) in
    omega arith

-- ---- a plain body takes none

pub plain_due : (t : ℕ) (b : Body) (i : ℕ) → Plain b → due t b i ≡ 0
unfolding Plain due outside shifting count
plain_due t done i h = omega arith
plain_due t (vec p a r) i h = rw h.0 (plain_due t r i h.1)
plain_due t (set' x r) i h = plain_due t r i h.1
plain_due t (inner w b r) i h = rw (plain_way w (Plain b) (outside b) h.0) (plain_due t r i h.1)
