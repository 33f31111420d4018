-- Arguments that fit a body, signal by signal: whichever signal with `#` in the Shift gives T, the same arguments fit, and where they fit T is the same.
use Prim.Native.Nat.{ℕ, ◌+◌, ◌-◌, ◌<◌}
use native.Mathlib.Omega.{arith}
use mathlib.Core.Path.{◌≡◌, refl, sym, ap, ◌∙◌, subst}
use mathlib.Core.Bool.{Bool, true, false, not, ◌&&◌, ◌||◌, true≢false}
use mathlib.Core.List.{List, [], ◌∷◌, ◌++◌}
use lib.Dec.{eqb}
use lib.ListN.{length}
use borrow.Author.Tests.{eq-eqb, ne_eqb, eqb-true, not-true}
use Rattle.tokens.proofs.Bools.{both, neither}
use Rattle.meaning.specs.Bounds.{signals_most}
use Rattle.meaning.specs.Lists.{has, inside, count, repeats}
use Rattle.meaning.specs.Body.{Args, Body, outside, shifting, arg_of, supplied, turns, length_due, lengths_fit, fits}
use Rattle.arguments.specs.Supplied.{TurnsBy, no_shift, by_signal, fits_at}
use Rattle.arguments.proofs.Lists.{has_behind, inside_each, inside_all}

-- ---- lengths

-- the first argument of a list, and the others
pub arg_first : (x : ℕ × List ℕ) (xs : Args) → arg_of x.0 (x ∷ xs) ≡ x.1
unfolding arg_of
arg_first x xs = rw (eq-eqb x.0 x.0 refl, arg_of)

pub arg_later : (x : ℕ × List ℕ) (xs : Args) (s : ℕ) → eqb x.0 s ≡ false → arg_of s (x ∷ xs) ≡ arg_of s xs
unfolding arg_of
arg_later x xs s e = rw (e, arg_of)

pub arg_none : (s : ℕ) (xs : Args) → has s (supplied xs) ≡ false → arg_of s xs ≡ []
unfolding arg_of supplied has
arg_none s [] h = refl
arg_none s (x ∷ xs) h = let p = neither (eqb x.0 s) (has s (supplied xs)) h in arg_later x xs s p.0 ∙ arg_none s xs p.1

module _ (b : Body) (t : ℕ) where
  lengths_each : (xs : Args) → lengths_fit b t xs ≡ true → (s : ℕ) → has s (supplied xs) ≡ true → length (arg_of s xs) ≡ length_due b t s
  unfolding lengths_fit arg_of supplied has
  lengths_each [] h s e = absurd (true≢false (sym e))
  lengths_each (x ∷ xs) h s e = by (eqb x.0 s) refl e (lengths_each xs p.1 s)
    where
      p : (eqb (length x.1) (length_due b t x.0) ≡ true) × (lengths_fit b t xs ≡ true)
      p = both _ _ h

      by : (z : Bool) → eqb x.0 s ≡ z → (z || has s (supplied xs)) ≡ true → (has s (supplied xs) ≡ true → length (arg_of s xs) ≡ length_due b t s)
          → length {A = ℕ} (elim z [ true ↦ x.1 | false ↦ arg_of s xs ]) ≡ length_due b t s
      by true q e ih = eqb-true _ _ p.0 ∙ ap (length_due b t) (eqb-true x.0 s q)
      by false q e ih = ih e

  lengths_all : (xs : Args) → repeats (supplied xs) ≡ false → ((s : ℕ) → has s (supplied xs) ≡ true → length (arg_of s xs) ≡ length_due b t s)
      → lengths_fit b t xs ≡ true
  unfolding lengths_fit supplied has repeats
  lengths_all [] once h = refl
  lengths_all (x ∷ xs) once h = rw (eq-eqb _ _ first, lengths_all xs p.1 later)
    where
      p : (has x.0 (supplied xs) ≡ false) × (repeats (supplied xs) ≡ false)
      p = neither _ _ once

      first : length x.1 ≡ length_due b t x.0
      first = ap length (sym (arg_first x xs)) ∙ h x.0 (rw (eq-eqb x.0 x.0 refl))

      later : (s : ℕ) → has s (supplied xs) ≡ true → length (arg_of s xs) ≡ length_due b t s
      later s e =
          let q : eqb x.0 s ≡ false = ne_eqb x.0 s (λ z. true≢false (sym e ∙ subst (λ (n : ℕ). has n (supplied xs) ≡ false) z p.0)) in
          ap length (sym (arg_later x xs s q)) ∙ h s (rw (q, e))

-- ---- each signal fits, where the Shift plays t times

module _ (b : Body) (xs : Args) (t s : ℕ) where
  pub fits_given : has s (supplied xs) ≡ true → fits_at b xs t s ≡ eqb (length (arg_of s xs)) (length_due b t s)
  unfolding fits_at
  fits_given e = rw (e, fits_at)

  pub fits_none : has s (supplied xs) ≡ false → fits_at b xs t s ≡ not (has s (outside b ++ shifting b))
  unfolding fits_at
  fits_none e = rw (e, fits_at)

pub record AllFit (b : Body) (xs : Args) (t : ℕ) : Type 0 where
  pub needed : (s : ℕ) → has s (outside b ++ shifting b) ≡ true → has s (supplied xs) ≡ true
  pub lengths : (s : ℕ) → has s (supplied xs) ≡ true → length (arg_of s xs) ≡ length_due b t s

abbrev fits_with : Body → Args → ℕ → Bool
fits_with b xs t = inside (outside b ++ shifting b) (supplied xs) && lengths_fit b t xs

module _ (b : Body) (xs : Args) where
  all_fit : (t : ℕ) → fits_with b xs t ≡ true → AllFit b xs t
  all_fit t h =
      let p = both _ _ h in
      record { needed = inside_each _ _ p.0; lengths = lengths_each b t xs p.1 }

  fit_all : (t : ℕ) → repeats (supplied xs) ≡ false → AllFit b xs t → fits_with b xs t ≡ true
  fit_all t once h = rw (inside_all (outside b ++ shifting b) (supplied xs) h.needed, lengths_all b t xs once h.lengths)

  -- ---- T

  -- a signal with `#` in the Shift whose length fits has that T
  turns_fit : (t s : ℕ) → AllFit b xs t → has s (shifting b) ≡ true → length (arg_of s xs) - count s (outside b) ≡ t
  unfolding length_due
  turns_fit t s h e =
      let due : length_due b t s ≡ count s (outside b) + t = rw (e, length_due) in
      omega (arith, h.lengths s (h.needed s (has_behind s (outside b) (shifting b) e)))

  -- where all lengths fit, T is the same whichever signal gives it
  same_turns : (t u v : ℕ) → AllFit b xs t → TurnsBy b xs u → TurnsBy b xs v → u ≡ v
  unfolding has
  same_turns t u v h (no_shift e p) (no_shift f q) = p ∙ sym q
  same_turns t u v h (no_shift e p) (by_signal s f q) = absurd (true≢false (sym f ∙ ap (has s) e))
  same_turns t u v h (by_signal s f q) (no_shift e p) = absurd (true≢false (sym f ∙ ap (has s) e))
  same_turns t u v h (by_signal s e p) (by_signal r f q) = p ∙ turns_fit t s h e ∙ sym (q ∙ turns_fit t r h f)

  -- the definition takes the first in the order of the text
  pub turns_due : TurnsBy b xs (turns b xs)
  unfolding turns has
  turns_due = by (shifting b) refl
    where
      by : (l : List ℕ) → shifting b ≡ l → TurnsBy b xs (elim l [ [] ↦ 0 | s ∷ ss ↦ length (arg_of s xs) - count s (outside b) ])
      by [] e = no_shift e refl
      by (s ∷ ss) e = by_signal s (ap (has s) e ∙ rw (eq-eqb s s refl)) refl

  module _ {t : ℕ} (by : TurnsBy b xs t) where
    -- THE LAW: `fits` is the same whichever signal with `#` in the Shift gives T
    pub fits_by : fits b xs ≡ (inside (outside b ++ shifting b) (supplied xs) && lengths_fit b t xs)
    unfolding fits
    fits_by = either (fits_with b xs (turns b xs)) refl (fits_with b xs t) refl
      where
        either : (x : Bool) → fits_with b xs (turns b xs) ≡ x → (y : Bool) → fits_with b xs t ≡ y → x ≡ y
        either false e false f = refl
        either true e y f = sym e ∙ ap (fits_with b xs) (same_turns (turns b xs) (turns b xs) t (all_fit (turns b xs) e) turns_due by) ∙ f
        either false e true f = sym e ∙ ap (fits_with b xs) (same_turns t (turns b xs) t (all_fit t f) turns_due by) ∙ f

    -- and where they fit, it is T
    pub turns_by : fits b xs ≡ true → t ≡ turns b xs
    unfolding fits
    turns_by e = same_turns (turns b xs) t (turns b xs) (all_fit (turns b xs) e) by turns_due

    -- ---- by each signal's test

    pub fits_each : fits b xs ≡ true → (s : ℕ) → fits_at b xs t s ≡ true
    fits_each e s = at (has s (supplied xs)) refl
      where
        h : AllFit b xs t
        h = all_fit t (sym fits_by ∙ e)

        without : (y : Bool) → has s (supplied xs) ≡ false → has s (outside b ++ shifting b) ≡ y → not y ≡ true
        without true p q = absurd (true≢false (sym (h.needed s q) ∙ p))
        without false p q = refl

        at : (x : Bool) → has s (supplied xs) ≡ x → fits_at b xs t s ≡ true
        at true p = fits_given b xs t s p ∙ eq-eqb _ _ (h.lengths s p)
        at false p = fits_none b xs t s p ∙ without _ p refl

    pub fits_all : repeats (supplied xs) ≡ false → ((s : ℕ) → has s (supplied xs) ≡ true → s < signals_most)
        → ((s : ℕ) → has s (outside b ++ shifting b) ≡ true → s < signals_most) → ((s : ℕ) → s < signals_most → fits_at b xs t s ≡ true) → fits b xs ≡ true
    fits_all once given used each =
        fits_by
        ∙ fit_all t once (record {
          needed = λ s e. need s e (has s (supplied xs)) refl;
          lengths = λ s e. eqb-true _ _ (sym (fits_given b xs t s e) ∙ each s (given s e));
        })
      where
        need : (s : ℕ) → has s (outside b ++ shifting b) ≡ true → (x : Bool) → has s (supplied xs) ≡ x → x ≡ true
        need s e true p = refl
        need s e false p = absurd (true≢false (sym e ∙ not-true _ (sym (fits_none b xs t s p) ∙ each s (used s e))))
