-- What the code has of the state in which a cycle is played: each signal's character, the table in force, and what is left of the arguments.
use Rattle.std.specs.Prelude.{ℕ, ◌+◌, ◌*◌, ◌<◌, ◌≤◌, ◌≡◌, Bool, true, false, List, [], ◌∷◌, length, get_or, take, drop, ltb}
use Rattle.std.proofs.Math.Option.{Option, none, some}
use Rattle.meaning.specs.Bounds.{signals_most, tables_most, depth_most}
use Rattle.meaning.specs.Lists.{has, inside}
use Rattle.meaning.specs.Body.{Assigns, Args, mark, arg_of, supplied, marked}
use Rattle.meaning.specs.Data.{assigned}
use Rattle.meaning.specs.Timing.{Tables}
use Rattle.meaning.specs.Run.{State, Played, unassigned, next, puts, cycle_at, again}
use Rattle.meaning.specs.Meaning.{first_failing}
use Rattle.feeds.specs.declared.Feed.{Feed}
use Rattle.feeds.specs.Feeds.{Feeds}
use Rattle.walks.specs.Turns.{skipped}
use Rattle.timing.specs.Marks.{chars_most}
use Rattle.measures.specs.Uses.{Given}

-- a table's number; any other stands for none
unfoldable pub table_of : ℕ → Option ℕ
table_of k = elim (ltb k tables_most) [ true ↦ some k | false ↦ none ]

-- levels of bodies in each other: the pattern, and as many as may stand in it
abbrev pub levels : ℕ
levels = depth_most + 1

-- the pins in force, and behind them a row for each level, which keeps a caller's
abbrev pub values_length : ℕ
values_length = (levels + 1) * signals_most

-- four numbers for each level and signal: what is left of its argument
abbrev pub feeds_length : ℕ
feeds_length = levels * signals_most * 4

abbrev pub feed_at : List ℕ → ℕ → ℕ → Feed
feed_at feeds level s = record {
  at = get_or feeds ((level * signals_most + s) * 4) 0;
  end = get_or feeds ((level * signals_most + s) * 4 + 1) 0;
  left = get_or feeds ((level * signals_most + s) * 4 + 2) 0;
  from = get_or feeds ((level * signals_most + s) * 4 + 3) 0;
}

-- a feed was written: all others are as they were
pub record Fills (feeds : List ℕ) (level s : ℕ) (f : Feed) (feeds' : List ℕ) : Type 0 where
  pub long : length feeds' ≡ length feeds
  pub here : feed_at feeds' level s ≡ f
  pub others : (l t : ℕ) → (l * signals_most + t ≡ level * signals_most + s → ⊥) → feed_at feeds' l t ≡ feed_at feeds l t

-- what is left of the arguments, at a level
pub record Feeding (text feeds : List ℕ) (level : ℕ) (a : Args) : Type 0 where
  pub each : (s : ℕ) → has s (supplied a) ≡ true → (s < signals_most) × Feeds text (feed_at feeds level s) (arg_of s a)

-- the state
pub record Shows (text : List ℕ) (signals : ℕ) (values : List ℕ) (table : ℕ) (feeds : List ℕ) (level : ℕ) (s : State) : Type 0 where
  pub pins_are : s.pins ≡ take signals values
  pub table_is : s.table ≡ table_of table
  pub args_are : Feeding text feeds level s.args

-- arrays of the right length, a level that there is, no more signals than there may be
pub record Roomy (signals : ℕ) (values feeds : List ℕ) (level : ℕ) : Type 0 where
  pub few : signals ≤ signals_most
  pub values_long : length values ≡ values_length
  pub feeds_long : length feeds ≡ feeds_length
  pub inside_levels : level < levels

-- assignments that can be made: to signals that there are, and `#` only where there is an argument
pub record Playable (signals : ℕ) (a : Assigns) (args : Args) : Type 0 where
  pub below : (s : ℕ) → has s (assigned a) ≡ true → s < signals
  pub fed : inside (marked a) (supplied args) ≡ true

-- what other levels keep: the rows behind the pins, and the arguments of every other level
pub record Others (level : ℕ) (values values' feeds feeds' : List ℕ) : Type 0 where
  pub rows : (i : ℕ) → signals_most ≤ i → get_or values' i 0 ≡ get_or values i 0
  pub feeds_kept : (l s : ℕ) → s < signals_most → (l ≡ level → ⊥) → feed_at feeds' l s ≡ feed_at feeds l s
  pub values_long : length values' ≡ length values
  pub feeds_long : length feeds' ≡ length feeds

-- so many signals are looked at together
abbrev pub eight : ℕ
eight = 8

-- n signals from s on are given nothing
pub record Idle (given : List ℕ) (s n : ℕ) : Type 0 where
  pub none : (k : ℕ) → k < n → get_or given (s + k) 0 ≡ 0

-- a V at p, played once
abbrev pub vector : ℕ → Assigns → State → Played
vector p a s = (puts a s, cycle_at p (puts a s) ∷ [])

-- what is told of a play y: that a cycle of it fails, first at this place; or that none does, and the state at its end
pub record Told (tabs : Tables) (text : List ℕ) (signals : ℕ) (values : List ℕ) (table : ℕ) (feeds : List ℕ) (level : ℕ) (failed : Bool) (place : ℕ) (y : Played) : Type 0 where
  pub fails : failed ≡ true → first_failing tabs y.1 ≡ some place
  pub sound : failed ≡ false → first_failing tabs y.1 ≡ none
  pub shows : failed ≡ false → Shows text signals values table feeds level y.0

-- n characters of each `#` of the assignments `given` were passed
pub record Skips (text given : List ℕ) (signals level n : ℕ) (values feeds feeds' : List ℕ) : Type 0 where
  pub shows : (a : Assigns) (s : State) (table : ℕ) → Given a given → Playable signals a s.args → Shows text signals values table feeds level s
      → Shows text signals values table feeds' level (skipped n a s)

-- ---- turns that are gone on at once

-- signal s has a waveform for c in the table, by its mark
abbrev pub HasMark : List ℕ → ℕ → ℕ → ℕ → Type 0
HasMark waves table s c = (c < chars_most) × (get_or waves ((table * signals_most + s) * chars_most + c) 0 ≡ 1)

-- it has one for each of the next n characters of the feed f, at most so many
pub record Having (text : List ℕ) (f : Feed) (waves : List ℕ) (table s most n : ℕ) : Type 0 where
  pub few : n ≤ most
  pub each : (cs : List ℕ) → Feeds text f cs → (i : ℕ) → i < n → HasMark waves table s (next (drop i cs))

-- in each of the next k turns of a V, at most so many, every `#` takes a character that has a waveform
pub record Ahead (text given feeds waves : List ℕ) (level signals table most k : ℕ) : Type 0 where
  pub few : k ≤ most
  pub each : (s : ℕ) → s < signals → get_or given s 0 ≡ mark → (cs : List ℕ) → Feeds text (feed_at feeds level s) cs
      → (i : ℕ) → i < k → HasMark waves table s (next (drop i cs))

-- k such turns on
pub record Advances (text given values feeds waves : List ℕ) (level signals table most k : ℕ) (values' feeds' : List ℕ) : Type 0 where
  pub ahead : Ahead text given feeds waves level signals table most k
  pub others : Others level values values' feeds feeds'
  pub shows : (a : Assigns) (s : State) (table p : ℕ) → Given a given → Playable signals a s.args → Shows text signals values table feeds level s
      → Shows text signals values' table feeds' level (again k (vector p a) s).0

-- ---- a procedure's caller

-- its pin, in the row of a level
abbrev pub kept_at : List ℕ → ℕ → ℕ → ℕ
kept_at values level s = get_or values ((level + 1) * signals_most + s) 0

-- the pins are kept in the row of the level, and unassigned; the other rows are as they were
pub record Leaves (level : ℕ) (values values' : List ℕ) : Type 0 where
  pub long : length values' ≡ length values
  pub cleared : (s : ℕ) → s < signals_most → get_or values' s 0 ≡ unassigned
  pub kept : (s : ℕ) → s < signals_most → kept_at values' level s ≡ get_or values s 0
  pub lower : (i : ℕ) → signals_most ≤ i → i < (level + 1) * signals_most → get_or values' i 0 ≡ get_or values i 0
  pub upper : (i : ℕ) → (level + 2) * signals_most ≤ i → get_or values' i 0 ≡ get_or values i 0

-- the pins are those of the row; all rows are as they were
pub record Returns (level : ℕ) (values values' : List ℕ) : Type 0 where
  pub long : length values' ≡ length values
  pub back : (s : ℕ) → s < signals_most → get_or values' s 0 ≡ kept_at values level s
  pub rows : (i : ℕ) → signals_most ≤ i → get_or values' i 0 ≡ get_or values i 0
