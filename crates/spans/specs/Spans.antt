-- The first and last time of each waveform in each category, at hand for each table, signal and character.
use Rattle.std.specs.Prelude.{ℕ, suc, ◌+◌, ◌-◌, ◌*◌, ◌<◌, ◌≡◌, Bool, true, false, ◌&&◌, List, length, get_or, leb}
use Rattle.std.proofs.Math.Option.{Option, none, some}
use Rattle.meaning.specs.Bounds.{signals_most, tables_most}
use Rattle.meaning.specs.Timing.{Tables}
use Rattle.meaning.specs.Meaning.{table_at}
use Rattle.meaning.specs.Services.{wave_of}
use Rattle.meaning.specs.Edges.{Category, drive, compare, first_time, last_time, events_of, period_at}

-- bytes that have times, from the first digit to the last letter
abbrev pub char_first : ℕ
char_first = 48

abbrev pub chars_wide : ℕ
chars_wide = 75

abbrev pub inside : ℕ → Bool
inside b = leb char_first b && leb b 122

abbrev pub table_wide : ℕ
table_wide = signals_most * chars_wide

abbrev pub slots_most : ℕ
slots_most = tables_most * table_wide

-- two numbers for each, of its drive and of its compare events
abbrev pub times_most : ℕ
times_most = slots_most * 2

-- a time that there may be: one more, and 0 for none
abbrev pub coded : Option ℕ → ℕ
coded none = 0
coded (some t) = suc t

-- the character b of signal s in table j
abbrev pub slot_of : ℕ → ℕ → ℕ → ℕ
slot_of j s b = j * table_wide + (s * chars_wide + (b - char_first))

abbrev pub side : Category → ℕ
side drive = 0
side compare = 1

abbrev pub time_at : List ℕ → ℕ → Category → ℕ
time_at row n k = get_or row (n * 2 + side k) 0

-- three arrays: first times, last times, and a period for each table
pub record Sized (firsts lasts periods : List ℕ) : Type 0 where
  pub first : length firsts ≡ times_most
  pub last : length lasts ≡ times_most
  pub each : length periods ≡ tables_most

-- THE PROMISE: they are those of these tables; a character for which there is no slot has no waveform
pub record Spans (tabs : Tables) (firsts lasts periods : List ℕ) : Type 0 where
  pub first : (j s b : ℕ) (k : Category) → j < tables_most → s < signals_most → inside b ≡ true → time_at firsts (slot_of j s b) k ≡ coded (first_time k (events_of s b (table_at tabs j)))
  pub last : (j s b : ℕ) (k : Category) → j < tables_most → s < signals_most → inside b ≡ true → time_at lasts (slot_of j s b) k ≡ coded (last_time k (events_of s b (table_at tabs j)))
  pub outside : (j s b : ℕ) → inside b ≡ false → wave_of s b (table_at tabs j) ≡ none
  pub period : (j : ℕ) → j < tables_most → get_or periods j 0 ≡ period_at tabs j
