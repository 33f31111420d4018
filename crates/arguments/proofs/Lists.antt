-- Lists as sets, by what stands in them.
use Prim.Native.Nat.{ℕ, suc}
use native.Mathlib.Omega.{arith}
use mathlib.Core.Path.{◌≡◌, refl, sym, ap, ◌∙◌, subst}
use mathlib.Core.Bool.{Bool, true, false, not, ◌||◌, true≢false, or-true}
use mathlib.Core.List.{List, [], ◌∷◌, ◌++◌}
use lib.Dec.{eqb}
use borrow.Author.Tests.{eq-eqb, ne_eqb, eqb-true}
use Rattle.tokens.proofs.Bools.{both}
use Rattle.meaning.specs.Lists.{has, inside, count}
use Rattle.meaning.proofs.Lists.{has_append}

-- ---- a number stands in a list

pub has_behind : (s : ℕ) (l m : List ℕ) → has s m ≡ true → has s (l ++ m) ≡ true
has_behind s l m e = has_append s l m ∙ rw e (or-true (has s l))

-- as often as it is counted
pub has_count : (s : ℕ) (l : List ℕ) → has s l ≡ not (eqb (count s l) 0)
unfolding has count
has_count s [] = refl
has_count s (x ∷ l) = by (eqb x s) (has_count s l)
  where
    by : (b : Bool) → has s l ≡ not (eqb (count s l) 0) → (b || has s l) ≡ not (eqb (elim b [ true ↦ suc (count s l) | false ↦ count s l ]) 0)
    by true ih = sym (ap not (ne_eqb (suc (count s l)) 0 (λ e. omega arith)))
    by false ih = ih

pub none_has : (l : List ℕ) → ((s : ℕ) → has s l ≡ false) → l ≡ []
unfolding has
none_has [] h = refl
none_has (x ∷ l) h = absurd (true≢false (sym (rw (eq-eqb x x refl)) ∙ h x))

-- ---- one list inside another

pub inside_each : (l m : List ℕ) → inside l m ≡ true → (s : ℕ) → has s l ≡ true → has s m ≡ true
unfolding inside has
inside_each [] m h s e = absurd (true≢false (sym e))
inside_each (x ∷ l) m h s e = let p = both (has x m) (inside l m) h in by (eqb x s) refl e (inside_each l m p.1 s)
  where
    by : (b : Bool) → eqb x s ≡ b → (b || has s l) ≡ true → (has s l ≡ true → has s m ≡ true) → has s m ≡ true
    by true q e ih = subst (λ (n : ℕ). has n m ≡ true) (eqb-true x s q) (both (has x m) (inside l m) h).0
    by false q e ih = ih e

pub inside_all : (l m : List ℕ) → ((s : ℕ) → has s l ≡ true → has s m ≡ true) → inside l m ≡ true
unfolding inside has
inside_all [] m h = refl
inside_all (x ∷ l) m h = rw (h x (rw (eq-eqb x x refl)), inside_all l m (λ s e. h s (later (eqb x s) e)))
  where
    later : (b : Bool) {y : Bool} → y ≡ true → (b || y) ≡ true
    later true e = refl
    later false e = e
