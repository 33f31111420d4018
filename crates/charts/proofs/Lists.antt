-- A list's numbers, three for a waveform: how many are asked for, and the first of those that are left.
use Prim.Native.Nat.{ℕ, ◌+◌, ◌*◌, ◌-◌, ◌≤◌, ◌<◌}
use native.Mathlib.Omega.{arith}
use mathlib.Core.Path.{◌≡◌, refl, sym, ap, ◌∙◌}
use mathlib.Core.Bool.{Bool, true, false, not}
use mathlib.Core.Option.{none}
use mathlib.Core.List.{List, [], ◌∷◌}
use lib.ListN.{length, get_or, drop, length-drop}
use lib.Seq.{drop-drop, get_or-drop}
use lib.Dec.{leb, ltb}
use borrow.Author.Tests.{le-leb, lt-leb, leb-true, leb-false, lt-ltb, le-ltb}
use Rattle.meaning.specs.Charts.{chart_most, Asked, asking, asked_in}

-- ---- how many

-- the last may have fewer than three
pub asked_count : (l : List ℕ) → (length l ≤ length (asked_in l) * 3) × (length (asked_in l) * 3 ≤ length l + 2)
unfolding asked_in
asked_count [] = (omega arith, omega arith)
asked_count (k ∷ []) = (omega arith, omega arith)
asked_count (k ∷ s ∷ []) = (omega arith, omega arith)
asked_count (k ∷ s ∷ c ∷ l) = let r = asked_count l in (omega (arith, r.0), omega (arith, r.1))

-- as their numbers tell
pub asked_within : (l : List ℕ) (k : ℕ) → leb (length l) (k * 3) ≡ leb (length (asked_in l)) k
asked_within l k = by (leb (length (asked_in l)) k) refl
  where
    by : (b : Bool) → leb (length (asked_in l)) k ≡ b → leb (length l) (k * 3) ≡ b
    by true e = le-leb (length l) (k * 3) (omega (arith, (asked_count l).0, leb-true (length (asked_in l)) k e))
    by false e = lt-leb (length l) (k * 3) (omega (arith, (asked_count l).1, leb-false (length (asked_in l)) k e))

-- a list that isn't too long
pub asked_few : (l : List ℕ) → length (asked_in l) ≤ chart_most → length l ≤ chart_most * 3
asked_few l h = omega (arith, (asked_count l).0)

-- room for as many as a list may have is room for all
pub asked_roomy : (l : List ℕ) (k : ℕ) → length (asked_in l) ≤ chart_most → chart_most ≤ k → true ≡ leb (length (asked_in l)) k
asked_roomy l k h m = sym (le-leb (length (asked_in l)) k (omega arith))

pub asked_many : (l : List ℕ) {y : Bool} → ltb (chart_most * 3) (length l) ≡ y → leb (length (asked_in l)) chart_most ≡ not y
asked_many l {y} e = sym (asked_within l chart_most) ∙ by (leb (length l) (chart_most * 3)) refl ∙ ap not e
  where
    by : (b : Bool) → leb (length l) (chart_most * 3) ≡ b → b ≡ not (ltb (chart_most * 3) (length l))
    by true h = sym (ap not (le-ltb (chart_most * 3) (length l) (leb-true (length l) (chart_most * 3) h)))
    by false h = sym (ap not (lt-ltb (chart_most * 3) (length l) (leb-false (length l) (chart_most * 3) h)))

-- ---- the next

-- what the numbers of a list ask for first, if there are some
pub record First (l : List ℕ) : Type 0 where
  pub first : Asked
  pub cut : asked_in l ≡ first ∷ asked_in (drop 3 l)
  pub short : length l < 3 → first ≡ none
  pub full : 3 ≤ length l → first ≡ asking (get_or l 0 0) (get_or l 1 0) (get_or l 2 0)

first_asked : (l : List ℕ) → 0 < length l → First l
unfolding asked_in
first_asked [] h = absurd (omega arith)
first_asked (k ∷ []) h = record { first = none; cut = refl; short = λ z. refl; full = λ z. absurd (omega arith) }
first_asked (k ∷ s ∷ []) h = record { first = none; cut = refl; short = λ z. refl; full = λ z. absurd (omega arith) }
first_asked (k ∷ s ∷ c ∷ l) h = record { first = asking k s c; cut = refl; short = λ z. absurd (omega arith); full = λ z. refl }

-- and those of the rest from a place on
pub record Next (l : List ℕ) (at : ℕ) : Type 0 where
  pub first : Asked
  pub cut : asked_in (drop at l) ≡ first ∷ asked_in (drop (at + 3) l)
  pub short : length l - at < 3 → first ≡ none
  pub full : 3 ≤ length l - at → first ≡ asking (get_or l at 0) (get_or l (at + 1) 0) (get_or l (at + 2) 0)

pub next_asked : (l : List ℕ) (at : ℕ) → at < length l → Next l at
next_asked l at h =
    let f = first_asked (drop at l) (omega (arith, length-drop at l)) in
    record {
      first = f.first;
      cut = f.cut ∙ ap (λ (m : List ℕ). f.first ∷ asked_in m) (drop-drop 3 at l);
      short = λ z. f.short (omega (arith, length-drop at l));
      full = λ z. f.full (omega (arith, length-drop at l)) ∙ rw (get_or-drop at l 0 0, get_or-drop at l 1 0, get_or-drop at l 2 0) (ap (λ (i : ℕ). asking (get_or l i 0) (get_or l (at + 1) 0) (get_or l (at + 2) 0)) (omega arith));
    }
