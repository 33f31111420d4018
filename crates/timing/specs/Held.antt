-- What the code has of all tables: their names, and which signal has a waveform for which character.
use Rattle.std.specs.Prelude.{ℕ, ◌+◌, ◌*◌, ◌≤◌, ◌<◌, ◌≡◌, false, List, get_or, eqb}
use Rattle.meaning.specs.Bounds.{signals_most, tables_most}
use Rattle.meaning.specs.Timing.{Tables}
use Rattle.meaning.specs.Meaning.{has_wave, table_at, firsts}
use Rattle.words.specs.Table.{names}
use Rattle.timing.specs.Marks.{chars_most}

-- the first `count` names of the table of names are theirs, and the marks are those of their waveforms; where there is no table, no mark is set; a
-- character that can have no mark has no waveform
pub record Held (text tplaces waves : List ℕ) (count : ℕ) (it : Tables) : Type 0 where
  pub few : count ≤ tables_most
  pub named : firsts it ≡ firsts (names text tplaces count)
  pub marks : (k s b : ℕ) → k < tables_most → s < signals_most → b < chars_most
      → eqb (get_or waves ((k * signals_most + s) * chars_most + b) 0) 1 ≡ has_wave s b (table_at it k)
  pub above : (k s b : ℕ) → s < signals_most → chars_most ≤ b → has_wave s b (table_at it k) ≡ false
