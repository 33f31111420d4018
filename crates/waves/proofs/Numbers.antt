-- The number of a character among some, as the library's `position` has it.
use Prim.Native.Nat.{ℕ, suc, ◌+◌, ◌≤◌, ◌<◌}
use native.Mathlib.Omega.{arith}
use mathlib.Core.Path.{◌≡◌, refl, sym}
use mathlib.Core.Bool.{Bool, true, false, cond, ◌||◌}
use mathlib.Core.List.{List, [], ◌∷◌}
use lib.Dec.{eqb, ltb}
use lib.ListN.{length}
use borrow.Author.Tests.{ltb-false}
use Rattle.meaning.specs.Lists.{has}
use Rattle.std.proofs.Common.{None, Some}
use Rattle.std.specs.Option.{unwrap_or}
use Rattle.std.proofs.lemmas.List.Recursion.{is_position_or_len}
use Rattle.std.specs.List.{position, position_or_len}
use Rattle.timing.specs.Watch.{number_of}

number_position : (b : ℕ) (w : List ℕ) → number_of b w ≡ position_or_len (λ x. eqb x b) w
unfolding number_of
number_position b w = is_position_or_len (number_of b) (λ x. eqb x b) refl (λ x xs. by (eqb x b) (number_of b xs)) w
  where
    by : (y : Bool) (n : ℕ) → elim y [ true ↦ 0 | false ↦ suc n ] ≡ cond y 0 (1 + n)
    by true n = refl
    by false n = omega arith

number_most : (b : ℕ) (w : List ℕ) → number_of b w ≤ length w
unfolding number_of
number_most b [] = omega arith
number_most b (x ∷ w) = by (eqb x b) (number_most b w)
  where
    by : (y : Bool) → number_of b w ≤ length w → elim y [ true ↦ 0 | false ↦ suc (number_of b w) ] ≤ suc (length w)
    by true ih = omega arith
    by false ih = omega arith

-- as many as there are where it is none of them
pub number_or : (b : ℕ) (w : List ℕ) → unwrap_or (position (λ x. eqb x b) w) (length w) ≡ number_of b w
number_or b w = by (ltb n (length w)) refl
  where
    n : ℕ
    n = position_or_len (λ x. eqb x b) w

    by : (y : Bool) → ltb n (length w) ≡ y → unwrap_or (cond y (Some n) None) (length w) ≡ number_of b w
    by true e = sym (number_position b w)
    by false e = omega (arith, ltb-false n (length w) e, number_most b w, number_position b w)

pub number_below : (b : ℕ) (cs : List ℕ) → has b cs ≡ true → number_of b cs < length cs
unfolding has number_of
number_below b [] h = let z : ◌≡◌ {A = ℕ} 0 1 = cc in absurd (omega arith)
number_below b (x ∷ cs) h = by (eqb x b) h (number_below b cs)
  where
    by : (y : Bool) → (y || has b cs) ≡ true → (has b cs ≡ true → number_of b cs < length cs)
        → elim y [ true ↦ 0 | false ↦ suc (number_of b cs) ] < suc (length cs)
    by true h ih = omega arith
    by false h ih = omega (arith, ih h)
