-- What is remembered of uses, statements with a body in them: rows of numbers, each of one use that was played and in which no cycle failed.
use Rattle.std.specs.Prelude.{ℕ, ◌+◌, ◌*◌, ◌%◌, ◌<◌, ◌≤◌, ◌≡◌, true, false, ◌⊎◌, List, length, get_or}
use Rattle.meaning.specs.Bounds.{signals_most}
use Rattle.words.specs.declared.Cursor.{Cursor}
use Rattle.memos.specs.declared.Use.{Use}
use Rattle.memos.specs.declared.Recalled.{Recalled}
use Rattle.memos.specs.Tracks.{is_marked, assigned_mark, tracks_length, marks_from}

-- a row: what it is found by; the cursor behind the use; the table before it, and what was tracked of each signal; the table and the pins behind it
abbrev pub points_at : ℕ
points_at = 5

abbrev pub before_at : ℕ
before_at = points_at + 3

abbrev pub picture_size : ℕ
picture_size = 1 + signals_most

abbrev pub behind_at : ℕ
behind_at = before_at + picture_size

abbrev pub memo_row : ℕ
memo_row = behind_at + picture_size

-- rows stand behind what is tracked of the uses that are being played
abbrev pub row_at : ℕ → ℕ
row_at j = tracks_length + j * memo_row

abbrev pub memo_length : ℕ
memo_length = row_at 337

-- numbers that a row can hold
pub record Short (u : Use) : Type 0 where
  pub seconds : u.seconds < 65_536
  pub fault : u.fault < 65_536
  pub at : u.at < 65_536
  pub end : u.end < 65_536

-- a cursor that it can hold, at which nothing is refused
pub record Near (b : Cursor) : Type 0 where
  pub on : b.no ≡ 0
  pub at : b.at < 65_536
  pub end : b.end < 65_536

-- ---- what a row holds

-- from the place o on: it is in use, for the use u, with so many second turns at least
pub record Notes (memo : List ℕ) (o : ℕ) (u : Use) : Type 0 where
  pub in_use : get_or memo o 0 ≡ 1
  pub seconds_fit : u.seconds ≤ get_or memo (o + 1) 0
  pub fault_is : get_or memo (o + 2) 0 ≡ u.fault
  pub at_is : get_or memo (o + 3) 0 ≡ u.at
  pub end_is : get_or memo (o + 4) 0 ≡ u.end

-- from the place o on: the cursor b
pub record Points (memo : List ℕ) (o : ℕ) (b : Cursor) : Type 0 where
  pub on : b.no ≡ 0
  pub fault_is : get_or memo o 0 % 256 ≡ b.fault
  pub at_is : get_or memo (o + 1) 0 ≡ b.at
  pub end_is : get_or memo (o + 2) 0 ≡ b.end

-- from the place o on: a table, and the marks of the first n signals
pub record Traces (memo : List ℕ) (o n table : ℕ) (marks : ℕ → ℕ) : Type 0 where
  pub table_is : get_or memo o 0 ≡ table
  pub marks_are : (s : ℕ) → s < n → marks_from memo (o + 1) s ≡ marks s

-- from the place o on: a table, and the pins of the first n signals
pub record Pictures (memo : List ℕ) (o n table : ℕ) (pins : ℕ → ℕ) : Type 0 where
  pub table_is : get_or memo o 0 ≡ table
  pub pins_are : (s : ℕ) → s < n → get_or memo (o + 1 + s) 0 % 256 ≡ pins s

abbrev pub pins_of : List ℕ → ℕ → ℕ
pins_of values s = get_or values s 0

-- a use, and what is known of it: the cursor behind it, from which table and with which marks it was played, and to which table and pins
pub record Told : Type 0 where
  pub of_use : Use
  pub cursor : Cursor
  pub table : ℕ
  pub marks : ℕ → ℕ
  pub table_behind : ℕ
  pub pins_behind : ℕ → ℕ

-- the row of number j tells this
pub record Row (memo : List ℕ) (n j : ℕ) (x : Told) : Type 0 where
  pub noted : Notes memo (row_at j) x.of_use
  pub pointed : Points memo (row_at j + points_at) x.cursor
  pub before : Traces memo (row_at j + before_at) n x.table x.marks
  pub behind : Pictures memo (row_at j + behind_at) n x.table_behind x.pins_behind

-- ---- what is written

-- only the places from o up to e
pub record Writes (memo memo' : List ℕ) (o e : ℕ) : Type 0 where
  pub long : length memo' ≡ length memo
  pub others : (i : ℕ) → (o ≤ i → i < e → ⊥) → get_or memo' i 0 ≡ get_or memo i 0

-- only what is tracked at a level
abbrev pub AtLevel : List ℕ → List ℕ → ℕ → Type 0
AtLevel memo memo' level = Writes memo memo' (level * signals_most) (level * signals_most + signals_most)

-- y is the same use with at most as many second turns, from and to the same
pub record SameUse (n : ℕ) (x y : Told) : Type 0 where
  pub seconds_fit : y.of_use.seconds ≤ x.of_use.seconds
  pub fault_is : y.of_use.fault ≡ x.of_use.fault
  pub at_is : y.of_use.at ≡ x.of_use.at
  pub end_is : y.of_use.end ≡ x.of_use.end
  pub cursor_is : y.cursor ≡ x.cursor
  pub table_is : y.table ≡ x.table
  pub marks_are : (s : ℕ) → s < n → y.marks s ≡ x.marks s
  pub behind_is : y.table_behind ≡ x.table_behind
  pub behind_are : (s : ℕ) → s < n → y.pins_behind s ≡ x.pins_behind s

-- each row tells what it told before, or what x is; nothing else is written
pub record Remembered (memo memo' : List ℕ) (n : ℕ) (x : Told) : Type 0 where
  pub long : length memo' ≡ length memo
  pub tracks : (i : ℕ) → i < tracks_length → get_or memo' i 0 ≡ get_or memo i 0
  pub each : (j : ℕ) (y : Told) → Row memo' n j y → Row memo n j y ⊎ SameUse n x y

-- ---- what is recalled

abbrev pub telling : Use → Cursor → ℕ → (ℕ → ℕ) → ℕ → (ℕ → ℕ) → Told
telling u b table marks table' pins =
    record { of_use = u; cursor = b; table = table; marks = marks; table_behind = table'; pins_behind = pins }

-- the row at this place tells of the use u from this table
pub record Finds (memo : List ℕ) (u : Use) (table at : ℕ) : Type 0 where
  pub row : (j : ℕ) × (at ≡ row_at j)
  pub room : at + memo_row ≤ length memo
  pub noted : Notes memo at u
  pub before : get_or memo (at + before_at) 0 ≡ table

-- what the use of the row at o assigned is on the first n pins
pub record Restores (memo : List ℕ) (o n : ℕ) (values values' : List ℕ) : Type 0 where
  pub long : length values' ≡ length values
  pub rows : (i : ℕ) → n ≤ i → get_or values' i 0 ≡ get_or values i 0
  pub put : (s : ℕ) → s < n → is_marked (marks_from memo (o + before_at + 1) s) assigned_mark ≡ true → get_or values' s 0 ≡ get_or memo (o + behind_at + 1 + s) 0 % 256
  pub kept : (s : ℕ) → s < n → is_marked (marks_from memo (o + before_at + 1) s) assigned_mark ≡ false → get_or values' s 0 ≡ get_or values s 0

-- and r has the cursor and the table behind it
pub record Brings (memo : List ℕ) (n o : ℕ) (values values' : List ℕ) (r : Recalled) : Type 0 where
  pub restores : Restores memo o n values values'
  pub pointed : Points memo (o + points_at) r.cursor
  pub table_is : get_or memo (o + behind_at) 0 ≡ r.table
