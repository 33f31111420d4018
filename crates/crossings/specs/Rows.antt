-- What the code has of the cycles that it needs again: the one that came last, and for each body in a body the first of a turn.
use Rattle.std.specs.Prelude.{ℕ, ◌+◌, ◌*◌, ◌-◌, ◌<◌, ◌≤◌, ◌≡◌, Bool, true, false, List, [], ◌∷◌, length, get_or, take, drop, eqb}
use Rattle.std.proofs.Math.Option.{Option, none, some}
use Rattle.meaning.specs.Bounds.{signals_most, depth_most}
use Rattle.meaning.specs.Timing.{Tables}
use Rattle.meaning.specs.Run.{Cycle}
use Rattle.meaning.specs.Edges.{last_behind, fine_behind, failing_behind}
use Rattle.pins.specs.Shown.{table_of}
use Rattle.spans.specs.Spans.{Spans, Sized}
use Rattle.spans.specs.declared.Times.{Times}
use Rattle.crossings.specs.declared.Seen.{Seen}

-- ---- rows

-- a row for the last cycle, and two for each body in a body: the first cycle of a turn, and what the turn found
abbrev pub rows_most : ℕ
rows_most = depth_most * 2 + 1

-- those in use where bodies may stand `more` deep
abbrev pub rows_of : ℕ → ℕ
rows_of more = (depth_most - more) * 2 + 1

-- the pins of all rows, and three numbers for each: the table, the place of the V, and whether there is a cycle
abbrev pub seen : List ℕ → List ℕ → Seen
seen pins marks = record { pins = pins; marks = marks }

-- they are of the right length
pub record Ample (x : Seen) : Type 0 where
  pub pins_long : length x.pins ≡ rows_most * signals_most
  pub marks_long : length x.marks ≡ rows_most * 3

-- a cycle over n signals, whose pins stand from `at` on
abbrev pub cycle_in : (n place table : ℕ) → List ℕ → ℕ → Cycle
cycle_in n place table pins at = record { at = place; table = table_of table; pins = take n (drop at pins) }

-- one that is there, or none
unfoldable pub row_of : ℕ → Cycle → Option Cycle
row_of there c = elim (eqb there 0) [ true ↦ none | false ↦ some c ]

unfoldable pub row_at : ℕ → Seen → ℕ → Option Cycle
row_at n x r = row_of (get_or x.marks (r * 3 + 2) 0) (cycle_in n (get_or x.marks (r * 3 + 1) 0) (get_or x.marks (r * 3) 0) x.pins (r * signals_most))

-- n pins were copied to a place
pub record Copied (n : ℕ) (values : List ℕ) (at : ℕ) (pins pins' : List ℕ) : Type 0 where
  pub long : length pins' ≡ length pins
  pub here : (s : ℕ) → s < n → get_or pins' (at + s) 0 ≡ get_or values s 0
  pub lower : (i : ℕ) → i < at → get_or pins' i 0 ≡ get_or pins i 0
  pub upper : (i : ℕ) → at + n ≤ i → get_or pins' i 0 ≡ get_or pins i 0

-- the numbers of a row
pub record Marked (row table place there : ℕ) (marks marks' : List ℕ) : Type 0 where
  pub long : length marks' ≡ length marks
  pub table_is : get_or marks' (row * 3) 0 ≡ table
  pub place_is : get_or marks' (row * 3 + 1) 0 ≡ place
  pub there_is : get_or marks' (row * 3 + 2) 0 ≡ there
  pub lower : (i : ℕ) → i < row * 3 → get_or marks' i 0 ≡ get_or marks i 0
  pub upper : (i : ℕ) → row * 3 + 3 ≤ i → get_or marks' i 0 ≡ get_or marks i 0

-- row r holds o; the others are as they were
pub record Stored (n r : ℕ) (o : Option Cycle) (x y : Seen) : Type 0 where
  pub pins_long : length y.pins ≡ length x.pins
  pub marks_long : length y.marks ≡ length x.marks
  pub here : row_at n y r ≡ o
  pub others : (q : ℕ) → q < rows_most → (q ≡ r → ⊥) → row_at n y q ≡ row_at n x q

-- ---- cycles gone through

-- the first cycle, unless there was one before
unfoldable pub first_seen : Option Cycle → List Cycle → Option Cycle
first_seen (some d) l = some d
first_seen none [] = none
first_seen none (c ∷ l) = some c

-- none, or one
unfoldable pub at_most_one : Option Cycle → List Cycle
at_most_one none = []
at_most_one (some c) = c ∷ []

-- the cycles l were gone through: the last of them is in row 0, and the first in each row in use that had none
pub record Noted (n rows : ℕ) (x y : Seen) (l : List Cycle) : Type 0 where
  pub last : row_at n y 0 ≡ last_behind (row_at n x 0) l
  pub first : (i : ℕ) → 0 < i → i < rows → row_at n y i ≡ first_seen (row_at n x i) l

pub record Long (x y : Seen) : Type 0 where
  pub pins_long : length y.pins ≡ length x.pins
  pub marks_long : length y.marks ≡ length x.marks

-- a pair of them is not in order, first with the later one's V at this place; or each is, and they were noted
pub record Passed (tabs : Tables) (n rows : ℕ) (x y : Seen) (failed : Bool) (place : ℕ) (l : List Cycle) : Type 0 where
  pub fails : failed ≡ true → failing_behind tabs (row_at n x 0) l ≡ some place
  pub sound : failed ≡ false → failing_behind tabs (row_at n x 0) l ≡ none
  pub noted : failed ≡ false → Noted n rows x y l

-- ---- the times of events, as `spans` has them

pub record Clock : Type 0 where
  pub firsts : List ℕ
  pub lasts : List ℕ
  pub periods : List ℕ

abbrev pub clock : List ℕ → List ℕ → List ℕ → Clock
clock firsts lasts periods = record { firsts = firsts; lasts = lasts; periods = periods }

-- as the code has it
abbrev pub clock_of : Times → Clock
clock_of t = clock t.firsts.now t.lasts.now t.periods.now

abbrev pub Timed : Tables → Clock → Type 0
Timed tabs k = Spans tabs k.firsts k.lasts k.periods

abbrev pub Fitted : Clock → Type 0
Fitted k = Sized k.firsts k.lasts k.periods

-- the cycle c is held against the last one
pub record Fine (tabs : Tables) (n : ℕ) (x : Seen) (c : Cycle) (fine : Bool) : Type 0 where
  pub is : fine ≡ fine_behind tabs (row_at n x 0) c

-- what row r holds is gone through once more
pub record Closed (tabs : Tables) (n r : ℕ) (x : Seen) (failed : Bool) (place : ℕ) : Type 0 where
  pub fails : failed ≡ true → failing_behind tabs (row_at n x 0) (at_most_one (row_at n x r)) ≡ some place
  pub sound : failed ≡ false → failing_behind tabs (row_at n x 0) (at_most_one (row_at n x r)) ≡ none
