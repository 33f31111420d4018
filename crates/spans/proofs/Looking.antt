-- What is looked up: the numbers of a category's times, and a pair of them held against each other.
use Prim.Native.Nat.{ℕ, ◌+◌, ◌-◌, ◌≤◌, ◌<◌}
use native.Mathlib.Omega.{arith}
use mathlib.Core.Path.{◌≡◌, refl, sym, ap, ap₂, ◌∙◌}
use mathlib.Core.Bool.{Bool, true, false, cond, ◌&&◌, ◌||◌}
use mathlib.Core.Option.{Option, none, some}
use mathlib.Core.List.{List, []}
use lib.ListN.{get_or}
use lib.Dec.{leb, ltb, eqb}
use borrow.Author.Tests.{leb-true, lt-ltb, eq-eqb, ne_eqb}
use Rattle.meaning.specs.Bounds.{signals_most, tables_most}
use Rattle.meaning.specs.Timing.{Event, Wave, Tables}
use Rattle.meaning.specs.Run.{unassigned}
use Rattle.meaning.specs.Meaning.{table_at}
use Rattle.meaning.specs.Services.{wave_of}
use Rattle.meaning.specs.Edges.{Category, drive, compare, times_in, first_of, last_behind, first_time, last_time, before, apart, follows, events_of, period_at}
use Rattle.edges.proofs.Counted.{ltb_alike}
use Rattle.spans.specs.Spans.{char_first, inside, coded, slot_of, time_at, Spans}

-- ---- characters that have times

pub inside_low : (b : ℕ) → inside b ≡ true → char_first ≤ b
inside_low b e = by (leb char_first b) refl e
  where
    by : (x : Bool) → leb char_first b ≡ x → (x && leb b 122) ≡ true → char_first ≤ b
    by true h e = leb-true char_first b h
    by false h e = absurd (let z : ◌≡◌ {A = ℕ} 0 1 = cc in omega arith)

pub inside_high : (b : ℕ) → inside b ≡ true → b ≤ 122
inside_high b e = by (leb char_first b) (leb b 122) refl e
  where
    by : (x y : Bool) → leb b 122 ≡ y → (x && y) ≡ true → b ≤ 122
    by x true h e = leb-true b 122 h
    by true false h e = absurd (let z : ◌≡◌ {A = ℕ} 0 1 = cc in omega arith)
    by false false h e = absurd (let z : ◌≡◌ {A = ℕ} 0 1 = cc in omega arith)

pub pick_yes : (b : Bool) (x y : ℕ) → b ≡ true → x ≡ cond b x y
pick_yes true x y e = refl
pick_yes false x y e = absurd (let z : ◌≡◌ {A = ℕ} 0 1 = cc in omega arith)

pub pick_no : (b : Bool) (x y : ℕ) → b ≡ false → y ≡ cond b x y
pick_no false x y e = refl
pick_no true x y e = absurd (let z : ◌≡◌ {A = ℕ} 0 1 = cc in omega arith)

-- ---- one before the other

module _ (period last first : ℕ) where
  -- one of them is missing
  pub apart_missing : (eqb last 0 || eqb first 0) ≡ true → (l f : Option ℕ) → last ≡ coded l → first ≡ coded f → true ≡ before period l f
  unfolding before
  apart_missing h none f e g = refl
  apart_missing h (some l) none e g = refl
  apart_missing h (some l) (some f) e g =
      let a : eqb last 0 ≡ false = ne_eqb last 0 (λ q. omega arith) in
      let b : eqb first 0 ≡ false = ne_eqb first 0 (λ q. omega arith) in
      let k : true ≡ false = sym h ∙ rw (a, b) in
      let z : ◌≡◌ {A = ℕ} 0 1 = cc in
      absurd (omega arith)

  pub apart_early : last < first → (l f : Option ℕ) → last ≡ coded l → first ≡ coded f → true ≡ before period l f
  unfolding before
  apart_early h none f e g = refl
  apart_early h (some l) none e g = refl
  apart_early h (some l) (some f) e g = sym (lt-ltb l (period + f) (omega arith))

  pub apart_late : (eqb last 0 || eqb first 0) ≡ false → first ≤ last → (l f : Option ℕ) → last ≡ coded l → first ≡ coded f → ltb (last - first) period ≡ before period l f
  unfolding before
  apart_late h k none f e g = absurd (let q : eqb last 0 ≡ true = rw e in let z : ◌≡◌ {A = ℕ} 0 1 = cc in omega arith)
  apart_late h k (some l) none e g =
      let a : eqb last 0 ≡ false = ne_eqb last 0 (λ q. omega arith) in
      let b : eqb first 0 ≡ true = eq-eqb first 0 g in
      let q : true ≡ false = sym (rw (a, b)) ∙ h in
      let z : ◌≡◌ {A = ℕ} 0 1 = cc in
      absurd (omega arith)
  apart_late h k (some l) (some f) e g = ltb_alike (last - first) period l (period + f) (λ x. omega arith) (λ x. omega arith)

-- ---- what the arrays tell

-- without a waveform there are no events
pub events_none : (s b : ℕ) (ws : List Wave) → wave_of s b ws ≡ none → events_of s b ws ≡ []
unfolding events_of
events_none s b ws e = by (eqb b unassigned)
  where
    by : (x : Bool) → ◌≡◌ {A = List Event} (elim x [ true ↦ [] | false ↦ elim (wave_of s b ws) [ none ↦ [] | some es ↦ es ] ]) []
    by true = refl
    by false = rw e

module _ {firsts lasts periods : List ℕ} (tabs : Tables) (x : Spans tabs firsts lasts periods) where
  first_number : (j s c : ℕ) (k : Category) {r : ℕ} → j < tables_most → s < signals_most → r ≡ cond (inside c) (time_at firsts (slot_of j s c) k) 0
      → r ≡ coded (first_time k (events_of s c (table_at tabs j)))
  unfolding first_time times_in first_of
  first_number j s c k {r} h g e = by (inside c) refl e
    where
      by : (b : Bool) → inside c ≡ b → r ≡ cond b (time_at firsts (slot_of j s c) k) 0 → r ≡ coded (first_time k (events_of s c (table_at tabs j)))
      by true q e = e ∙ x.first j s c k h g q
      by false q e = e ∙ sym (ap (λ (es : List Event). coded (first_time k es)) (events_none s c (table_at tabs j) (x.outside j s c q)))

  last_number : (j s c : ℕ) (k : Category) {r : ℕ} → j < tables_most → s < signals_most → r ≡ cond (inside c) (time_at lasts (slot_of j s c) k) 0
      → r ≡ coded (last_time k (events_of s c (table_at tabs j)))
  unfolding last_time times_in last_behind
  last_number j s c k {r} h g e = by (inside c) refl e
    where
      by : (b : Bool) → inside c ≡ b → r ≡ cond b (time_at lasts (slot_of j s c) k) 0 → r ≡ coded (last_time k (events_of s c (table_at tabs j)))
      by true q e = e ∙ x.last j s c k h g q
      by false q e = e ∙ sym (ap (λ (es : List Event). coded (last_time k es)) (events_none s c (table_at tabs j) (x.outside j s c q)))

  -- the code's answer for one category
  abbrev Apart : ℕ → ℕ → ℕ → Bool → Type 0
  Apart period last first r = (l f : Option ℕ) → last ≡ coded l → first ≡ coded f → r ≡ before period l f

  pub fine_follows : (j k s c d : ℕ) {l₁ f₁ l₂ f₂ : ℕ} {y z : Bool} → s < signals_most → j < tables_most → k < tables_most
      → l₁ ≡ cond (inside c) (time_at lasts (slot_of j s c) drive) 0 → f₁ ≡ cond (inside d) (time_at firsts (slot_of k s d) drive) 0 → Apart (get_or periods j 0) l₁ f₁ y
      → l₂ ≡ cond (inside c) (time_at lasts (slot_of j s c) compare) 0 → f₂ ≡ cond (inside d) (time_at firsts (slot_of k s d) compare) 0 → Apart (get_or periods j 0) l₂ f₂ z
      → (y && z) ≡ follows (period_at tabs j) (events_of s c (table_at tabs j)) (events_of s d (table_at tabs k))
  unfolding follows apart
  fine_follows j k s c d {y = y} {z = z} hs hj hk a b e a' b' e' =
      let one = e _ _ (last_number j s c drive hj hs a) (first_number k s d drive hk hs b) in
      let two = e' _ _ (last_number j s c compare hj hs a') (first_number k s d compare hk hs b') in
      ap₂ ◌&&◌ one two
      ∙ ap (λ (p : ℕ). follows p (events_of s c (table_at tabs j)) (events_of s d (table_at tabs k))) (x.period j hj)
