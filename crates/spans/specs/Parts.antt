-- Parts of the tables of times, as the code fills them.
use Rattle.std.specs.Prelude.{ℕ, ◌+◌, ◌*◌, ◌≤◌, ◌<◌, ◌/◌, ◌%◌, ◌≡◌, true, List, [], ◌∷◌, length}
use Rattle.std.proofs.Math.Option.{Option}
use Rattle.meaning.specs.Timing.{Event, Wave, Tables}
use Rattle.meaning.specs.Edges.{Category, drive, compare, first_time, last_time, events_of}
use Rattle.spans.specs.Spans.{char_first, chars_wide, table_wide, inside, coded, time_at, Spans}
use Rattle.spans.specs.declared.Span.{Span}
use Rattle.spans.specs.declared.Both.{Both}

-- times below this one have a number
abbrev pub times_below : ℕ
times_below = 4_294_967_295

-- those of these events have
abbrev pub Timely : List Event → Type 0
Timely [] = Unit {0}
Timely (e ∷ es) = (e.time < times_below) × Timely es

-- waveforms with a number for each time and a place for each character
abbrev pub Fit : List Wave → Type 0
Fit [] = Unit {0}
Fit (w ∷ ws) = ((inside w.char ≡ true) × Timely w.events) × Fit ws

-- the numbers of some events in a category
pub record Spanning (k : Category) (x : Span) (es : List Event) : Type 0 where
  pub first : x.first ≡ coded (first_time k es)
  pub last : x.last ≡ coded (last_time k es)

-- and in both
pub record Spanned (x : Both) (es : List Event) : Type 0 where
  pub drives : Spanning drive x.drive es
  pub compares : Spanning compare x.compare es

-- two numbers were put, and nothing else changed
pub record Put (before : List ℕ) (n d c : ℕ) (after : List ℕ) : Type 0 where
  pub drives : time_at after n drive ≡ d
  pub compares : time_at after n compare ≡ c
  pub others : (m : ℕ) (k : Category) → (m ≡ n → ⊥) → time_at after m k ≡ time_at before m k

-- what stands at a slot
pub record Filled (firsts lasts : List ℕ) (n : ℕ) (r : Both) : Type 0 where
  pub first_drive : r.drive.first ≡ time_at firsts n drive
  pub last_drive : r.drive.last ≡ time_at lasts n drive
  pub first_compare : r.compare.first ≡ time_at firsts n compare
  pub last_compare : r.compare.last ≡ time_at lasts n compare

-- places of entries that are told apart
abbrev pub owners_most : ℕ
owners_most = 1024

-- table j has no times yet
abbrev pub Clear : ℕ → List ℕ → Type 0
Clear j row = (m : ℕ) (k : Category) → m < table_wide → time_at row (j * table_wide + m) k ≡ 0

-- the first i slots of table j hold the times f of these waveforms, and nothing else changed
pub record Upto (f : Category → List Event → Option ℕ) (j : ℕ) (ws : List Wave) (i : ℕ) (before after : List ℕ) : Type 0 where
  pub here : (m : ℕ) (k : Category) → m < i → time_at after (j * table_wide + m) k ≡ coded (f k (events_of (m / chars_wide) (char_first + m % chars_wide) ws))
  pub below : (m : ℕ) (k : Category) → m < j * table_wide → time_at after m k ≡ time_at before m k
  pub above : (m : ℕ) (k : Category) → j * table_wide + i ≤ m → time_at after m k ≡ time_at before m k

-- j tables are in the arrays
pub record Held (j : ℕ) (tabs : Tables) (firsts lasts periods : List ℕ) : Type 0 where
  pub count : length tabs ≡ j
  pub spans : Spans tabs firsts lasts periods
