-- What a row and a table tell of one signal: its uses of `#` outside the Shift, as far as they are counted, whether it has one in the Shift, and how
-- many characters its argument has. No argument is as long as the count goes, so that a count that was cut off fits none.
use Prim.Native.Nat.{ℕ, ◌+◌, ◌-◌, ◌≤◌, ◌<◌, min}
use native.Mathlib.Omega.{arith}
use native.Mathlib.Nat.{add-zero}
use mathlib.Core.Path.{◌≡◌, refl, sym, ap, ◌∙◌}
use mathlib.Core.Bool.{Bool, true, false, not, ◌&&◌, ◌||◌, not-not}
use mathlib.Core.List.{List, [], ◌∷◌, ◌++◌}
use lib.Dec.{eqb}
use lib.ListN.{length, get_or}
use borrow.Author.Tests.{eq-eqb, ne_eqb, eqb-true, eqb-false, not-true, not-false}
use Rattle.std.proofs.Common.{None, Some}
use Rattle.meaning.specs.Bounds.{signals_most, argument_most}
use Rattle.meaning.specs.Lists.{has, count}
use Rattle.meaning.specs.Body.{Args, Body, outside, shifting, arg_of, supplied, length_due, fits}
use Rattle.meaning.specs.Data.{assigned}
use Rattle.meaning.proofs.Lists.{has_append}
use Rattle.assigns.proofs.Table.{given_some, given_none}
use Rattle.measures.specs.Uses.{uses_cap, flag, Uses}
use Rattle.arguments.specs.Supplied.{marks_of, Supplied, TurnsBy, no_shift, by_signal, fits_at, Fits}
use Rattle.arguments.proofs.Lists.{has_behind, has_count, none_has}
use Rattle.arguments.proofs.Fits.{arg_none, fits_given, fits_none, turns_by, fits_each, fits_all}

-- two tests that say the same
eqb_same : (a b c d : ℕ) → (a ≡ b → c ≡ d) → (c ≡ d → a ≡ b) → eqb a b ≡ eqb c d
eqb_same a b c d f g = by (eqb a b) refl
  where
    by : (z : Bool) → eqb a b ≡ z → z ≡ eqb c d
    by true e = sym (eq-eqb c d (f (eqb-true a b e)))
    by false e = sym (ne_eqb c d (λ q. eqb-false a b e (g q)))

-- ---- counts that were cut off

-- a length that an argument may have is below the cap: it is the capped count just where it is the count, and as much beyond both
module _ (n u : ℕ) (few : n ≤ argument_most) where
  pub capped_fits : eqb n (min uses_cap u) ≡ eqb n u
  capped_fits = eqb_same n (min uses_cap u) n u (λ e. omega arith) (λ e. omega arith)

  pub capped_beyond : n - min uses_cap u ≡ n - u
  capped_beyond = omega arith

-- ---- which signals have an argument

pub marks_assigned : (xs : Args) → assigned (marks_of xs) ≡ supplied xs
unfolding marks_of assigned supplied
marks_assigned [] = refl
marks_assigned (x ∷ xs) = ap (λ (l : List ℕ). x.0 ∷ l) (marks_assigned xs)

module _ {text : List ℕ} {xs : Args} {given args : List ℕ} (sup : Supplied text xs given args) (s : ℕ) where
  module _ (below : s < signals_most) where
    pub argument_some : (get_or given s 0 ≡ 0 → ⊥) → has s (supplied xs) ≡ true
    argument_some h = ap (has s) (sym (marks_assigned xs)) ∙ given_some sup.gave s below h

    pub argument_none : get_or given s 0 ≡ 0 → has s (supplied xs) ≡ false
    argument_none h = ap (has s) (sym (marks_assigned xs)) ∙ given_none sup.gave s below h

    pub length_some : (get_or given s 0 ≡ 0 → ⊥) → get_or args s 0 ≡ length (arg_of s xs)
    length_some h = (sup.each s (argument_some h)).counted

    pub length_none : get_or given s 0 ≡ 0 → length (arg_of s xs) ≡ 0
    length_none h = ap length (arg_none s xs (argument_none h))

  pub length_few : length (arg_of s xs) ≤ argument_most
  length_few = by (has s (supplied xs)) refl
    where
      by : (z : Bool) → has s (supplied xs) ≡ z → length (arg_of s xs) ≤ argument_most
      by true e = (sup.each s e).few
      by false e = omega (arith, ap length (arg_none s xs e))

-- ---- which signals have `#`

module _ {b : Body} {row : List ℕ} (uses : Uses b row) (s : ℕ) (below : s < signals_most) where
  flagged : eqb (get_or row (signals_most + s) 0) 0 ≡ not (has s (shifting b))
  flagged = ap (λ (n : ℕ). eqb n 0) (uses.shifting_is s below) ∙ by (has s (shifting b))
    where
      by : (z : Bool) → eqb (flag z) 0 ≡ not z
      by true = refl
      by false = refl

  pub in_shift_lem : (get_or row (signals_most + s) 0 ≡ 0 → ⊥) → has s (shifting b) ≡ true
  in_shift_lem h = not-false _ (sym flagged ∙ ne_eqb _ _ h)

  pub not_in_shift : get_or row (signals_most + s) 0 ≡ 0 → has s (shifting b) ≡ false
  not_in_shift h = not-true _ (sym flagged ∙ eq-eqb _ _ h)

  pub used : (not (eqb (get_or row s 0) 0) || not (eqb (get_or row (signals_most + s) 0) 0)) ≡ has s (outside b ++ shifting b)
  used =
      let u = uses.outside_is s below in
      let out : not (eqb (get_or row s 0) 0) ≡ has s (outside b) =
      ap not (eqb_same (get_or row s 0) 0 (count s (outside b)) 0 (λ e. omega arith) (λ e. omega arith)) ∙ sym (has_count s (outside b)) in
      let shift : not (eqb (get_or row (signals_most + s) 0) 0) ≡ has s (shifting b) = ap not flagged ∙ not-not (has s (shifting b)) in
      rw (out, shift) (sym (has_append s (outside b) (shifting b)))

-- ---- both together

module _ {text : List ℕ} {b : Body} {xs : Args} {row given args : List ℕ} (uses : Uses b row) (sup : Supplied text xs given args) where
  -- no signal below the bound has `#` in the Shift: the Shift has none, or there is none
  pub turns_none : (s : ℕ) → signals_most ≤ s → ((k : ℕ) → k < s → has k (shifting b) ≡ false) → TurnsBy b xs 0
  turns_none s h none = no_shift (none_has (shifting b) (λ k. at k (has k (shifting b)) refl)) refl
    where
      at : (k : ℕ) (z : Bool) → has k (shifting b) ≡ z → z ≡ false
      at k true e = let l = uses.below k (has_behind k (outside b) (shifting b) e) in sym e ∙ none k (omega arith)
      at k false e = refl

  module _ (s : ℕ) (below : s < signals_most) where
    -- T by signal s
    module _ (shift : get_or row (signals_most + s) 0 ≡ 0 → ⊥) {n : ℕ} (is : n ≡ length (arg_of s xs)) where
      beyond : n - get_or row s 0 ≡ length (arg_of s xs) - count s (outside b)
      beyond = rw (is, uses.outside_is s below) (capped_beyond (length (arg_of s xs)) (count s (outside b)) (length_few sup s))

      pub turns_more : TurnsBy b xs (n - get_or row s 0)
      turns_more = by_signal s (in_shift_lem uses s below shift) beyond

    -- does it fit, by the code's tests
    module _ (t : ℕ) where
      pub fits_unused : get_or given s 0 ≡ 0 → (eqb (get_or row s 0) 0 && not (not (eqb (get_or row (signals_most + s) 0) 0))) ≡ fits_at b xs t s
      fits_unused h =
          morgan (eqb (get_or row s 0) 0) (eqb (get_or row (signals_most + s) 0) 0)
          ∙ ap not (used uses s below)
          ∙ sym (fits_none b xs t s (argument_none sup s below h))
        where
          morgan : (x y : Bool) → (x && not (not y)) ≡ not (not x || not y)
          morgan true true = refl
          morgan true false = refl
          morgan false y = refl

      module _ (some : get_or given s 0 ≡ 0 → ⊥) where
        pub fits_outside : get_or row (signals_most + s) 0 ≡ 0 → eqb (get_or args s 0) (get_or row s 0) ≡ fits_at b xs t s
        unfolding length_due
        fits_outside h =
            let due : length_due b t s ≡ count s (outside b) + 0 = rw (not_in_shift uses s below h, length_due) in
            rw (length_some sup s below some, uses.outside_is s below)
            (capped_fits (length (arg_of s xs)) (count s (outside b)) (length_few sup s)
            ∙ ap (eqb (length (arg_of s xs))) (sym (due ∙ add-zero (count s (outside b))))
            ∙ sym (fits_given b xs t s (argument_some sup s below some)))

        module _ (shift : get_or row (signals_most + s) 0 ≡ 0 → ⊥) where
          due : length_due b t s ≡ count s (outside b) + t
          unfolding length_due
          due = rw (in_shift_lem uses s below shift, length_due)

          pub fits_short : get_or args s 0 < get_or row s 0 → false ≡ fits_at b xs t s
          fits_short h =
              let n = length_some sup s below some in
              let u = uses.outside_is s below in
              let e : length (arg_of s xs) ≡ length_due b t s → ⊥ = λ e. omega (arith, due) in
              sym (fits_given b xs t s (argument_some sup s below some) ∙ ne_eqb _ _ e)

          pub fits_beyond : get_or row s 0 ≤ get_or args s 0 → eqb (get_or args s 0 - get_or row s 0) t ≡ fits_at b xs t s
          fits_beyond h =
              let n = length_some sup s below some in
              let few = length_few sup s in
              let u = uses.outside_is s below in
              eqb_same (get_or args s 0 - get_or row s 0) t (length (arg_of s xs)) (length_due b t s) (λ e. omega (arith, due)) (λ e. omega (arith, due))
              ∙ sym (fits_given b xs t s (argument_some sup s below some))

  -- all signals
  module _ {t : ℕ} (by : TurnsBy b xs t) where
    pub fits_not : (s : ℕ) → fits_at b xs t s ≡ false → Fits b xs None
    fits_not s h = record { told = sym (at (fits b xs) refl); turns_is = λ n e. cc }
      where
        at : (z : Bool) → fits b xs ≡ z → z ≡ false
        at true e = sym (fits_each b xs by e s) ∙ h
        at false e = refl

    pub fits_so : (s : ℕ) → signals_most ≤ s → ((k : ℕ) → k < s → fits_at b xs t k ≡ true) → Fits b xs (Some t)
    fits_so s h each =
        let all = fits_all b xs by sup.once sup.below uses.below (λ k l. each k (omega arith)) in
        record { told = sym all; turns_is = λ n e. let is : t ≡ n = cc in sym is ∙ turns_by b xs by all }
