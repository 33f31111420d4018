-- The name of an argument: one signal, which its row has behind the number 1.
use Prim.Native.Nat.{ℕ, ◌+◌, ◌*◌, ◌<◌}
use native.Mathlib.Omega.{arith}
use native.Mathlib.Nat.{add-zero}
use mathlib.Core.Path.{◌≡◌, refl, sym, ap, ◌∙◌, subst}
use mathlib.Core.Bool.{false, ◌&&◌, and-true}
use mathlib.Core.List.{List, [], ◌∷◌}
use lib.ListN.{length, get_or}
use borrow.Author.Tests.{ne_eqb}
use Rattle.meaning.specs.Lists.{has, inside}
use Rattle.meaning.specs.Data.{is_one}
use Rattle.sets.proofs.Tidy.{TidyBelow, next}
use Rattle.signals.specs.Names.{row_length, list_at}
use Rattle.assigns.proofs.Rows.{row_at}

pub single : (l : List ℕ) → length l ≡ 1 → l ≡ get_or l 0 0 ∷ []
single [] h = absurd (omega arith)
single (x ∷ []) h = refl
single (x ∷ y ∷ l) h = absurd (omega arith)

-- the signal of a name that has one
module _ (lists : List ℕ) (i : ℕ) (one : length (list_at lists i) ≡ 1) where
  pub one_is : list_at lists i ≡ get_or lists (i * row_length + 1) 0 ∷ []
  one_is =
      single (list_at lists i) one
      ∙ ap (λ (n : ℕ). n ∷ []) (row_at lists i 0 (omega arith) ∙ ap (λ (n : ℕ). get_or lists n 0) (add-zero (i * row_length + 1)))

  pub one_below : {most : ℕ} → TidyBelow most (list_at lists i) → get_or lists (i * row_length + 1) 0 < most
  one_below {most} t = by (subst (TidyBelow most) one_is t)
    where
      by : {s : ℕ} → TidyBelow most (s ∷ []) → s < most
      by (next b e t) = b

module _ (l m : List ℕ) where
  pub not_one : (length l ≡ 1 → ⊥) → false ≡ (is_one l && inside l m)
  unfolding is_one
  not_one h = rw (ne_eqb (length l) 1 h)

  pub one_inside : {s : ℕ} → l ≡ s ∷ [] → has s m ≡ (is_one l && inside l m)
  unfolding is_one inside
  one_inside {s} e = rw e (sym (and-true (has s m)))
