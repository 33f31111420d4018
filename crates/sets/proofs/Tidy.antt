-- Tidy sets: numbers that differ and lie below a bound. There are at most as many as the bound says, so two that do not meet have room together.
use mathlib.Core.Path.{◌≡◌, refl, sym, ap}
use Prim.Native.Nat.{ℕ, zero, suc, ◌+◌, ◌≤◌, ◌<◌}
use native.Mathlib.Omega.{arith}
use mathlib.Core.Bool.{Bool, true, false, false≢true, ◌||◌}
use mathlib.Core.List.{List, [], ◌∷◌, ◌++◌}
use lib.Dec.{eqb}
use lib.ListN.{length, length-append}
use borrow.Author.Tests.{eqb-true, eqb-false, ne_eqb}
use Rattle.tokens.proofs.Bools.{neither, neither_or}
use Rattle.meaning.specs.Bounds.{signals_most}
use Rattle.meaning.specs.Lists.{has, meets, without}

pub data TidyBelow (most : ℕ) : List ℕ → Type 0 where
  bare : TidyBelow most []
  next : {x : ℕ} {l : List ℕ} → x < most → has x l ≡ false → TidyBelow most l → TidyBelow most (x ∷ l)

abbrev pub Tidy : List ℕ → Type 0
Tidy = TidyBelow signals_most

pub has_below : {most : ℕ} {l : List ℕ} → TidyBelow most l → (s : ℕ) → has s l ≡ true → s < most
unfolding has
has_below bare s h = absurd (false≢true h)
has_below {most} (next {x} {l} b e t) s h = by (eqb x s) refl h (has_below t s)
  where
    by : (z : Bool) → eqb x s ≡ z → (z || has s l) ≡ true → (has s l ≡ true → s < most) → s < most
    by true q k ih = omega (arith, eqb-true x s q)
    by false q k ih = ih k

-- ---- at most as many as the bound says

unless : Bool → ℕ → ℕ
unless true m = m
unless false m = suc m

unless_suc : (b : Bool) (m : ℕ) → unless b (suc m) ≡ suc (unless b m)
unfolding unless
unless_suc true m = refl
unless_suc false m = refl

-- how many numbers below k are not in l
absent : ℕ → List ℕ → ℕ
absent zero l = 0
absent (suc k) l = unless (has k l) (absent k l)

none_absent : (k : ℕ) → absent k [] ≡ k
unfolding absent unless has
none_absent zero = refl
none_absent (suc k) = ap suc (none_absent k)

above : (k x : ℕ) (l : List ℕ) → k ≤ x → absent k (x ∷ l) ≡ absent k l
unfolding absent has
above zero x l h = refl
above (suc k) x l h = rw (ne_eqb x k (λ e. omega arith), above k x l (omega arith))

one_less : (k x : ℕ) (l : List ℕ) → x < k → has x l ≡ false → absent k l ≡ suc (absent k (x ∷ l))
unfolding absent unless has
one_less zero x l h e = absurd (omega arith)
one_less (suc k) x l h e = by (eqb x k) refl (λ j. one_less k x l j e)
  where
    by : (b : Bool) → eqb x k ≡ b → (x < k → absent k l ≡ suc (absent k (x ∷ l))) → absent (suc k) l ≡ suc (absent (suc k) (x ∷ l))
    by true q ih = let f : has k l ≡ false = rw (eqb-true x k q) at e in rw (q, f, above k x l (omega (arith, eqb-true x k q)))
    by false q ih = rw (q, ih (omega (arith, eqb-false x k q))) (unless_suc (has k l) _)

pub tidy_short : {most : ℕ} {l : List ℕ} → TidyBelow most l → length l ≤ most
tidy_short {most} {l} t = let e = by t in omega arith
  where
    by : {l : List ℕ} → TidyBelow most l → length l + absent most l ≡ most
    by bare = omega (arith, none_absent most)
    by (next {x} {l} h e t) = omega (arith, by t, one_less most x l h e)

-- ---- joins and differences

-- x has nothing of y ∷ g
meets_cons : (x g : List ℕ) (y : ℕ) → meets x (y ∷ g) ≡ false → (has y x ≡ false) × (meets x g ≡ false)
unfolding meets has
meets_cons [] g y h = (refl, refl)
meets_cons (a ∷ x) g y h =
    let p = neither (has a (y ∷ g)) (meets x (y ∷ g)) h in
    let q = neither (eqb y a) (has a g) p.0 in
    let r = meets_cons x g y p.1 in
    (neither_or (ne_eqb a y (λ e. eqb-false y a q.0 (sym e))) r.0, neither_or q.1 r.1)

has_append : (y : ℕ) (a b : List ℕ) → has y a ≡ false → has y b ≡ false → has y (a ++ b) ≡ false
unfolding has
has_append y [] b h k = k
has_append y (x ∷ a) b h k = let p = neither (eqb x y) (has y a) h in neither_or p.0 (has_append y a b p.1 k)

has_without : (y : ℕ) (g x : List ℕ) → has y g ≡ false → has y (without g x) ≡ false
unfolding has without
has_without y [] x h = refl
has_without y (a ∷ g) x h = let p = neither (eqb a y) (has y g) h in by (has a x) p.0 (has_without y g x p.1)
  where
    by : (b : Bool) → eqb a y ≡ false → has y (without g x) ≡ false → has y (elim b [ true ↦ without g x | false ↦ a ∷ without g x ]) ≡ false
    by true e k = k
    by false e k = neither_or e k

module _ {most : ℕ} where
  pub tidy_single : {x : ℕ} → x < most → TidyBelow most (x ∷ [])
  unfolding has
  tidy_single h = next h refl bare

  pub tidy_append : {g x : List ℕ} → TidyBelow most g → TidyBelow most x → meets x g ≡ false → TidyBelow most (g ++ x)
  tidy_append bare u m = u
  tidy_append {x = x} (next {x = y} {l = g} h e t) u m =
      let p = meets_cons x g y m in next h (has_append y g x e p.0) (tidy_append t u p.1)

  pub tidy_without : {g : List ℕ} (x : List ℕ) → TidyBelow most g → TidyBelow most (without g x)
  unfolding without
  tidy_without x bare = bare
  tidy_without x (next {x = y} {l = g} h e t) = by (tidy_without x t) (has y x)
    where
      by : TidyBelow most (without g x) → (b : Bool) → TidyBelow most (elim b [ true ↦ without g x | false ↦ y ∷ without g x ])
      by u true = u
      by u false = next h (has_without y g x e) u

  pub join_fits : {g x : List ℕ} → TidyBelow most g → TidyBelow most x → meets x g ≡ false → length g + length x ≤ most
  join_fits {g} {x} t u m = omega (arith, tidy_short (tidy_append t u m), length-append g x)
