-- Arguments that fit a body are just as long as is due.
use Prim.Native.Nat.{ℕ, suc, ◌≤◌}
use native.Mathlib.Nat.{mul-one, mul-zero}
use native.Mathlib.Omega.{arith}
use mathlib.Core.Path.{◌≡◌, refl, sym, ap, ◌∙◌, subst}
use mathlib.Core.Bool.{Bool, true, false}
use mathlib.Core.List.{List, [], ◌∷◌}
use lib.ListN.{length}
use lib.Dec.{eqb}
use borrow.Author.Tests.{eqb-true, eqb-false, not-true}
use Rattle.tokens.proofs.Bools.{neither}
use Rattle.meaning.specs.Lists.{has, count, repeats}
use Rattle.meaning.specs.Body.{Args, Body, outside, shifting, arg_of, supplied, turns, length_due, fits}
use Rattle.meaning.proofs.Lists.{has_append}
use Rattle.measures.proofs.Counting.{not_counted}
use Rattle.arguments.specs.Supplied.{fits_at}
use Rattle.arguments.proofs.Lists.{has_count}
use Rattle.arguments.proofs.Fits.{arg_none, fits_given, fits_none, turns_due, fits_each}
use Rattle.sums.specs.Sums.{due}
use Rattle.sums.specs.Parts.{Exact}

there : (i : ℕ) (l : List ℕ) → has i l ≡ true → count i l ≡ 0 → ⊥
there i l e = eqb-false (count i l) 0 (not-true _ (sym (has_count i l) ∙ e))

pub no_more_than_once : (i : ℕ) (l : List ℕ) → repeats l ≡ false → count i l ≤ 1
unfolding count repeats
no_more_than_once i [] h = omega arith
no_more_than_once i (x ∷ l) h = let e = neither (has x l) (repeats l) h in by (eqb x i) refl e.0 (no_more_than_once i l e.1)
  where
    by : (w : Bool) → eqb x i ≡ w → has x l ≡ false → count i l ≤ 1 → elim w [ true ↦ suc (count i l) | false ↦ count i l ] ≤ 1
    by true e g ih = omega (arith, not_counted i l (subst (λ (k : ℕ). has k l ≡ false) (eqb-true x i e) g))
    by false e g ih = ih

module _ (b : Body) (a : Args) (once : (i : ℕ) → count i (shifting b) ≤ 1) where
  -- with `#` in the Shift no more than once, a character is due for each turn
  length_due_lem : (t i : ℕ) → length_due b t i ≡ due t b i
  unfolding due length_due
  length_due_lem t i = by (has i (shifting b)) refl
    where
      by : (w : Bool) → has i (shifting b) ≡ w → length_due b t i ≡ due t b i
      by true e =
          let one : count i (shifting b) ≡ 1 = omega (arith, once i, there i (shifting b) e) in
          rw (e, length_due, one) (omega (arith, mul-one t))
      by false e = rw (e, length_due, not_counted i (shifting b) e) (omega (arith, mul-zero t))

  pub fits_exact : fits b a ≡ true → Exact (turns b a) b a
  unfolding due
  fits_exact f = record { lengths = λ i. by i (has i (supplied a)) refl }
    where
      t : ℕ
      t = turns b a

      at : (i : ℕ) → fits_at b a t i ≡ true
      at = fits_each b a (turns_due b a) f

      by : (i : ℕ) (w : Bool) → has i (supplied a) ≡ w → length (arg_of i a) ≡ due t b i
      by i true e = eqb-true _ _ (sym (fits_given b a t i e) ∙ at i) ∙ length_due_lem t i
      by i false e =
          let none = sym (has_append i (outside b) (shifting b)) ∙ not-true _ (sym (fits_none b a t i e) ∙ at i) in
          let no = neither (has i (outside b)) (has i (shifting b)) none in
          ap length (arg_none i a e) ∙ rw (not_counted i (outside b) no.0, not_counted i (shifting b) no.1) (omega (arith, mul-zero t))
