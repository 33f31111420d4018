-- Arguments that have lost their first characters: one after the other or together is the same, and what is left of one argument.
use mathlib.Core.Path.{◌≡◌, refl, sym, ap, ap₂, ◌∙◌, subst}
use Prim.Native.Nat.{ℕ, ◌+◌}
use native.Mathlib.Nat.{add_comm}
use native.Mathlib.Omega.{arith}
use mathlib.Core.Bool.{Bool, true, false, ◌||◌}
use mathlib.Core.List.{List, [], ◌∷◌}
use lib.ListN.{drop}
use lib.Seq.{drop-drop, drop-nil}
use lib.Dec.{eqb}
use borrow.Author.Tests.{eqb-true, eqb-false}
use Rattle.tokens.proofs.Bools.{neither}
use Rattle.meaning.specs.Lists.{has, repeats}
use Rattle.meaning.specs.Body.{Args, arg_of, supplied}
use Rattle.meaning.specs.Run.{behind, taken}
use Rattle.walks.specs.Turns.{lost, lost_all}

-- ---- one after the other

pub behind_one : (cs : List ℕ) → behind cs ≡ drop 1 cs
unfolding behind
behind_one [] = refl
behind_one (c ∷ cs) = refl

pub taken_lost : (s : ℕ) (A : Args) → taken s A ≡ lost 1 s A
unfolding taken lost
taken_lost s [] = refl
taken_lost s (x ∷ A) =
    ap₂ (λ (cs : List ℕ) (l : Args). elim (eqb x.0 s) [ true ↦ (x.0, cs) ∷ A | false ↦ x ∷ l ]) (behind_one x.1) (taken_lost s A)

-- one after the other, in either order
lost_swap : (i j s u : ℕ) (A : Args) → lost i s (lost j u A) ≡ lost j u (lost i s A)
unfolding lost
lost_swap i j s u [] = refl
lost_swap i j s u (x ∷ A) = by (eqb x.0 s) refl (eqb x.0 u) refl (lost_swap i j s u A)
  where
    by : (p : Bool) → eqb x.0 s ≡ p → (q : Bool) → eqb x.0 u ≡ q → lost i s (lost j u A) ≡ lost j u (lost i s A)
        → lost i s (lost j u (x ∷ A)) ≡ lost j u (lost i s (x ∷ A))
    by true e true g ih =
        let h : drop i (drop j x.1) ≡ drop j (drop i x.1) = drop-drop i j x.1 ∙ ap (λ (k : ℕ). drop k x.1) (add_comm j i) ∙ sym (drop-drop j i x.1) in
        simp (e, g, lost) (ap (λ (cs : List ℕ). (x.0, cs) ∷ A) h)
    by true e false g ih = simp (e, g, lost)
    by false e true g ih = simp (e, g, lost)
    by false e false g ih = simp (e, g, lost) (ap (λ (l : Args). x ∷ l) ih)

lost_both : (i j s : ℕ) (A : Args) → lost i s (lost j s A) ≡ lost (j + i) s A
unfolding lost
lost_both i j s [] = refl
lost_both i j s (x ∷ A) = by (eqb x.0 s) refl (lost_both i j s A)
  where
    by : (p : Bool) → eqb x.0 s ≡ p → lost i s (lost j s A) ≡ lost (j + i) s A → lost i s (lost j s (x ∷ A)) ≡ lost (j + i) s (x ∷ A)
    by true e ih = simp (e, lost) (ap (λ (cs : List ℕ). (x.0, cs) ∷ A) (drop-drop i j x.1))
    by false e ih = simp (e, lost) (ap (λ (l : Args). x ∷ l) ih)

lost_none : (s : ℕ) (A : Args) → lost 0 s A ≡ A
unfolding lost
lost_none s [] = refl
lost_none s (x ∷ A) = by (eqb x.0 s) refl (lost_none s A)
  where
    by : (p : Bool) → eqb x.0 s ≡ p → lost 0 s A ≡ A → lost 0 s (x ∷ A) ≡ x ∷ A
    by true e ih = simp (e, lost)
    by false e ih = simp (e, lost) (ap (λ (l : Args). x ∷ l) ih)

all_swap : (i j u : ℕ) (ss : List ℕ) (A : Args) → lost_all i ss (lost j u A) ≡ lost j u (lost_all i ss A)
unfolding lost_all
all_swap i j u [] A = refl
all_swap i j u (s ∷ ss) A = ap (lost_all i ss) (lost_swap i j s u A) ∙ all_swap i j u ss (lost i s A)

pub all_both : (i j : ℕ) (ss : List ℕ) (A : Args) → lost_all i ss (lost_all j ss A) ≡ lost_all (j + i) ss A
unfolding lost_all
all_both i j [] A = refl
all_both i j (s ∷ ss) A =
    ap (lost_all i ss) (sym (all_swap j i s ss (lost j s A))) ∙ all_both i j ss (lost i s (lost j s A)) ∙ ap (lost_all (j + i) ss) (lost_both i j s A)

pub all_none : (ss : List ℕ) (A : Args) → lost_all 0 ss A ≡ A
unfolding lost_all
all_none [] A = refl
all_none (s ∷ ss) A = all_none ss (lost 0 s A) ∙ lost_none s A

-- ---- what is left of one argument, for whoever holds them signal by signal

supplied_one : (i s : ℕ) (A : Args) → supplied (lost i s A) ≡ supplied A
unfolding lost supplied
supplied_one i s [] = refl
supplied_one i s (x ∷ A) = by (eqb x.0 s) (supplied_one i s A)
  where
    by : (p : Bool) → supplied (lost i s A) ≡ supplied A
        → supplied (elim p [ true ↦ (x.0, drop i x.1) ∷ A | false ↦ x ∷ lost i s A ]) ≡ x.0 ∷ supplied A
    by true h = refl
    by false h = ap (λ (l : List ℕ). x.0 ∷ l) h

pub supplied_lost : (i : ℕ) (ss : List ℕ) (A : Args) → supplied (lost_all i ss A) ≡ supplied A
unfolding lost_all
supplied_lost i [] A = refl
supplied_lost i (s ∷ ss) A = supplied_lost i ss (lost i s A) ∙ supplied_one i s A

arg_lost : (i s : ℕ) (A : Args) → arg_of s (lost i s A) ≡ drop i (arg_of s A)
unfolding lost arg_of
arg_lost i s [] = sym (drop-nil i)
arg_lost i s (x ∷ A) = by (eqb x.0 s) refl (arg_lost i s A)
  where
    by : (p : Bool) → eqb x.0 s ≡ p → arg_of s (lost i s A) ≡ drop i (arg_of s A) → arg_of s (lost i s (x ∷ A)) ≡ drop i (arg_of s (x ∷ A))
    by true e ih = simp (e, lost, arg_of)
    by false e ih = simp (e, lost, arg_of) ih

arg_other : (i s u : ℕ) (A : Args) → (u ≡ s → ⊥) → arg_of s (lost i u A) ≡ arg_of s A
unfolding lost arg_of
arg_other i s u [] h = refl
arg_other i s u (x ∷ A) h = by (eqb x.0 u) refl (eqb x.0 s) refl (arg_other i s u A h)
  where
    by : (p : Bool) → eqb x.0 u ≡ p → (q : Bool) → eqb x.0 s ≡ q → arg_of s (lost i u A) ≡ arg_of s A → arg_of s (lost i u (x ∷ A)) ≡ arg_of s (x ∷ A)
    by true e true g ih = absurd (h (sym (eqb-true x.0 u e) ∙ eqb-true x.0 s g))
    by true e false g ih = simp (e, g, lost, arg_of)
    by false e true g ih = simp (e, g, lost, arg_of)
    by false e false g ih = simp (e, g, lost, arg_of) ih

-- a signal without `#`
pub arg_kept : (i s : ℕ) (ss : List ℕ) (A : Args) → has s ss ≡ false → arg_of s (lost_all i ss A) ≡ arg_of s A
unfolding lost_all has
arg_kept i s [] A h = refl
arg_kept i s (u ∷ ss) A h =
    let e = neither (eqb u s) (has s ss) h in
    arg_kept i s ss (lost i u A) e.1 ∙ arg_other i s u A (eqb-false u s e.0)

-- one with it, once
pub arg_skipped : (i s : ℕ) (ss : List ℕ) (A : Args) → repeats ss ≡ false → has s ss ≡ true → arg_of s (lost_all i ss A) ≡ drop i (arg_of s A)
unfolding lost_all has repeats
arg_skipped i s [] A g h = let z : ◌≡◌ {A = ℕ} 0 1 = cc in absurd (omega arith)
arg_skipped i s (u ∷ ss) A g h = by (eqb u s) refl h (arg_skipped i s ss (lost i u A) (neither (has u ss) (repeats ss) g).1)
  where
    by : (p : Bool) → eqb u s ≡ p → p || has s ss ≡ true → (has s ss ≡ true → arg_of s (lost_all i ss (lost i u A)) ≡ drop i (arg_of s (lost i u A)))
        → arg_of s (lost_all i ss (lost i u A)) ≡ drop i (arg_of s A)
    by true e h ih =
        let q : u ≡ s = eqb-true u s e in
        arg_kept i s ss (lost i u A) (subst (λ (k : ℕ). has k ss ≡ false) q (neither (has u ss) (repeats ss) g).0)
        ∙ ap (λ (k : ℕ). arg_of s (lost i k A)) q ∙ arg_lost i s A
    by false e h ih = ih h ∙ ap (drop i) (arg_other i s u A (eqb-false u s e))
