-- What is known at a V when a body is played from an unknown start: the characters and the table set since. And the first V of a row at
-- which a test fails, where a test looks at one signal's character and the table.
use mathlib.Core.Path.{◌≡◌, refl, ap, ap₂}
use Prim.Native.Nat.{ℕ, zero, suc}
use native.Mathlib.Omega.{arith}
use mathlib.Core.Bool.{Bool, true, false, ◌&&◌}
use mathlib.Core.Option.{Option, none, some, or_else}
use mathlib.Core.List.{List, [], ◌∷◌, ◌++◌}
use Rattle.tokens.proofs.Bools.{both}
use Rattle.meaning.proofs.Turns.{later}

pub record Known : Type 0 where
  pub pins : ℕ → Option ℕ
  pub table : Option (Option ℕ)

abbrev pub nothing : Known
nothing = record { pins = λ i. none; table = none }

-- e, and then x
abbrev pub after : Known → Known → Known
after e x = record { pins = λ i. later (e.pins i) (x.pins i); table = later e.table x.table }

-- a V's place, and what is known there
abbrev pub Met : Type 0
Met = ℕ × Known

-- the same V's, with e before them
unfoldable pub behind : Known → List Met → List Met
behind e [] = []
behind e (x ∷ l) = (x.0, after e x.1) ∷ behind e l

-- for each signal, a test of its character and the table
abbrev pub Test : Type 0
Test = ℕ → Option ℕ → Option (Option ℕ) → Bool

-- a test as it is behind e
abbrev pub from : Known → Test → Test
from e T i p q = T i (later (e.pins i) p) (later e.table q)

-- m numbers from i on
unfoldable pub every : ℕ → ℕ → (ℕ → Bool) → Bool
every i zero f = true
every i (suc m) f = f i && every (suc i) m f

every_alike : (f g h : ℕ → Bool) → ((i : ℕ) → f i ≡ true → g i ≡ h i) → (i m : ℕ) → every i m f ≡ true → every i m g ≡ every i m h
unfolding every
every_alike f g h q i zero e = refl
every_alike f g h q i (suc m) e =
    let l = both (f i) (every (suc i) m f) e in
    ap₂ ◌&&◌ (q i l.0) (every_alike f g h q (suc i) m l.1)

module _ (n : ℕ) where
  -- one test more than there are signals: that one has the table alone
  abbrev pub passes : Test → Known → Bool
  passes T x = every 0 (suc n) λ i. T i (x.pins i) x.table

  unfoldable pub first : Test → List Met → Option ℕ
  first T [] = none
  first T (x ∷ l) = elim (passes T x.1) [ true ↦ first T l | false ↦ some x.0 ]

  pub first-++ : (T : Test) (a b : List Met) → first T (a ++ b) ≡ or_else (first T a) (first T b)
  unfolding first or_else
  first-++ T [] b = refl
  first-++ T (x ∷ a) b = by (passes T x.1) (first-++ T a b)
    where
      by : (w : Bool) → first T (a ++ b) ≡ or_else (first T a) (first T b)
          → ◌≡◌ {A = Option ℕ} (elim w [ true ↦ first T (a ++ b) | false ↦ some x.0 ]) (or_else (elim w [ true ↦ first T a | false ↦ some x.0 ]) (first T b))
      by true h = h
      by false h = refl

  pub first_behind : (T : Test) (e : Known) (l : List Met) → first T (behind e l) ≡ first (from e T) l
  unfolding first behind
  first_behind T e [] = refl
  first_behind T e (x ∷ l) = ap (λ (o : Option ℕ). elim (passes T (after e x.1)) [ true ↦ o | false ↦ some x.0 ]) (first_behind T e l)

  -- where all V's pass a test, two others that agree on what passes fail first at the same V
  pub first_alike : (T U W : Test) → ((i : ℕ) (p : Option ℕ) (q : Option (Option ℕ)) → T i p q ≡ true → U i p q ≡ W i p q) → (l : List Met) → first T l ≡ none
      → first U l ≡ first W l
  unfolding first
  first_alike T U W h [] e = refl
  first_alike T U W h (x ∷ l) e = by (passes T x.1) refl e (first_alike T U W h l)
    where
      by : (w : Bool) → passes T x.1 ≡ w → ◌≡◌ {A = Option ℕ} (elim w [ true ↦ first T l | false ↦ some x.0 ]) none
          → (first T l ≡ none → first U l ≡ first W l)
          → first U (x ∷ l) ≡ first W (x ∷ l)
      by true p e ih =
          ap₂ (λ (w : Bool) (o : Option ℕ). elim w [ true ↦ o | false ↦ some x.0 ])
          (every_alike _ _ _ (λ i. h i (x.1.pins i) x.1.table) 0 (suc n) p)
          (ih e)
      by false p e ih = let z : ◌≡◌ {A = ℕ} 0 1 = cc in absurd (omega arith)
