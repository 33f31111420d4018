-- Three turns of each Loop find the first failing pair. From its second turn on a Loop's turns are the same cycles (`meaning/Turns`), so the
-- pair into the third turn is that into every later one, and what follows the Loop follows the same cycle.
use mathlib.Core.Path.{◌≡◌, refl, sym, ap, ap₂, ◌∙◌, fun_ext}
use Prim.Native.Nat.{ℕ, zero, suc, min}
use native.Mathlib.Omega.{arith}
use mathlib.Core.Option.{Option, or_else}
use mathlib.Core.List.{List, ◌++◌}
use Rattle.meaning.specs.Timing.{Tables}
use Rattle.meaning.specs.Body.{Way, looped, shifted, entered, Body, done, vec, set', inner}
use Rattle.meaning.specs.Run.{shift_of, State, Cycle, Played, changed, again, playing, play}
use Rattle.meaning.proofs.Turns.{IfLoop, Plain, Good, plain_twice, copies, turns_repeat}
use Rattle.meaning.proofs.Ending as ending
use Rattle.meaning.specs.Edges.{last_behind, failing_behind}
use Rattle.edges.specs.Three.{turns_most, few_turns, in_three}
use Rattle.edges.proofs.Behind.{last-++, last_copies, failing-++, failing_copies}

module _ (tabs : Tables) where
  -- of a row, whatever cycle comes before: which one comes last, and which pair fails first
  abbrev told : List Cycle → Option Cycle → Option Cycle × Option ℕ
  told l o = (last_behind o l, failing_behind tabs o l)

  told-++ : (a b : List Cycle) (o : Option Cycle) → told (a ++ b) o ≡ ((told b (told a o).0).0, or_else (told a o).1 (told b (told a o).0).1)
  told-++ a b o = ap₂ (λ (c : Option Cycle) (p : Option ℕ). (c, p)) (last-++ o a b) (failing-++ tabs o a b)

  told_joined : (a b c d : List Cycle) → told a ≡ told b → told c ≡ told d → told (a ++ c) ≡ told (b ++ d)
  told_joined a b c d h k = fun_ext λ o.
      told-++ a c o
      ∙ ap₂ (λ (f g : Option Cycle → Option Cycle × Option ℕ). ((g (f o).0).0, or_else (f o).1 (g (f o).0).1)) h k
      ∙ sym (told-++ b d o)

  -- the same state, and the same is told
  abbrev Alike : Played → Played → Type 0
  Alike = ending.Alike told told_joined

  alike_trans : (x y z : Played) → Alike x y → Alike y z → Alike x z
  alike_trans x y z h k = (h.0 ∙ k.0, h.1 ∙ k.1)

  -- a row, and then another one at least twice
  alike_copies : (s : State) (l m : List Cycle) (n : ℕ) → Alike (s, l ++ copies (suc (suc n)) m) (s, l ++ copies 2 m)
  alike_copies s l m n = (
    refl,
    fun_ext λ o.
        ap₂ (λ (c : Option Cycle) (p : Option ℕ). (c, p))
        (last-++ o l _ ∙ last_copies _ m (suc n) ∙ sym (last-++ o l _ ∙ last_copies _ m 1))
        (failing-++ tabs o l _ ∙ ap (or_else (failing_behind tabs o l)) (failing_copies tabs _ m n ∙ sym (failing_copies tabs _ m 0)) ∙ sym (failing-++ tabs o l _)),
  )

  -- a Loop whose second turn leaves what its first left
  alike_loop : (f : State → Played) → ((s : State) → (f (f s).0).0 ≡ (f s).0) → (n : ℕ) (s : State) → Alike (again n f s) (again (min n turns_most) f s)
  alike_loop f h zero s = (refl, refl)
  alike_loop f h (suc zero) s = (refl, refl)
  alike_loop f h (suc (suc zero)) s = (refl, refl)
  alike_loop f h (suc (suc (suc n))) s =
      let least : min (suc (suc (suc n))) 3 ≡ 3 = omega arith in
      rw (least, turns_repeat f h (suc (suc n)) s, turns_repeat f h 2 s) (alike_copies (f s).0 (f s).1 (f (f s).0).1 n)

  alike_few : (t : ℕ) (w : Way) (b : Body) → IfLoop w (Plain b) → (s : State)
      → Alike (playing t w (play (shift_of t w) b) s) (playing t (few_turns w) (play (shift_of t (few_turns w)) b) s)
  unfolding playing few_turns shift_of
  alike_few t (looped n) b h s = alike_loop (play t b) (plain_twice t b h) n s
  alike_few t shifted b h s = (refl, refl)
  alike_few t (entered k u a) b h s = (refl, refl)

  alike_three : (b : Body) → Good b → (t : ℕ) (s : State) → Alike (play t b s) (play t (in_three b) s)
  unfolding Good play in_three
  alike_three done h t s = (refl, refl)
  alike_three (vec p a r) h t s = ending.alike_follow told told_joined _ _ (play t r) _ (refl, refl) (alike_three r h t)
  alike_three (set' x r) h t s = alike_three r h t (changed x s)
  alike_three (inner w b r) h t s =
      let u = shift_of t (few_turns w) in
      ending.alike_follow told told_joined _ _ (play t r) (play t (in_three r))
      (alike_trans _ (playing t (few_turns w) (play u b) s) _ (alike_few t w b h.0 s) (ending.alike_playing told told_joined t (few_turns w) _ _ (alike_three b h.1 u) s))
      (alike_three r h.2 t)

  -- THE LAW: at most three turns of each Loop find the first failing pair, whatever cycle comes before
  pub first_pair_three : (t : ℕ) (b : Body) → Good b → (s : State) (o : Option Cycle)
      → failing_behind tabs o (play t b s).1 ≡ failing_behind tabs o (play t (in_three b) s).1
  first_pair_three t b h s o = ap (λ (f : Option Cycle → Option Cycle × Option ℕ). (f o).1) (alike_three b h t s).1
