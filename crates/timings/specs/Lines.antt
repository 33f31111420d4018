-- Lines of Timing as the code writes them.
use Rattle.std.specs.Prelude.{ℕ, ◌≡◌, List, [], ◌∷◌, ◌++◌}
use Rattle.tokens.specs.Written.{bytes}
use Rattle.tokens.specs.Tokens.{Tok}
use Rattle.meaning.specs.Timing.{Table, Tables}
use Rattle.folded.specs.Pieces.{only, laid, each, lf, closing}
use Rattle.folded.specs.Flat.{Chart, Sheet, charts_from, sheets}
use Rattle.folded.specs.Layout.{timed, chart_put, sheet_put}
use Rattle.pens.specs.Pens.{Writes}
use Rattle.pens.specs.declared.Pen.{Pen}

-- the first line of a table
unfoldable pub titled : List ℕ → ℕ → List ℕ
titled name period = bytes "WaveformTable " ++ (name ++ (bytes "{Period'" ++ (timed period ++ bytes "';Waveforms{\n")))

-- a table as it is written
abbrev pub sheet_of : List Tok → Tok × Table → Sheet
sheet_of signals x = record { name = x.0.word; period = x.1.period; charts = charts_from 0 signals x.1.waves }

-- the lines of a table's signals, and its last one
abbrev pub charted : List Chart → List ℕ
charted xs = laid (each chart_put xs (only closing ∷ only closing ∷ only lf ∷ []))

-- one table was read behind some, and is written
pub record OneSheet (before : List ℕ) (pen : Pen) (signals : List Tok) (tabs it : Tables) (after : List ℕ) (r : Pen) : Type 0 where
  pub table : Tok × Table
  pub is : it ≡ tabs ++ table ∷ []
  pub writes : Writes before pen (laid (sheet_put (sheet_of signals table) [])) after r

-- and so some, also none
pub record MoreSheets (before : List ℕ) (pen : Pen) (signals : List Tok) (tabs it : Tables) (after : List ℕ) (r : Pen) : Type 0 where
  pub more : Tables
  pub is : it ≡ tabs ++ more
  pub writes : Writes before pen (laid (each sheet_put (sheets signals more) [])) after r
