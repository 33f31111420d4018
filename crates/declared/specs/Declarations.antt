-- All that is declared before the bodies: `STIL 1.0;`, the names and the tables (document 01, "The text we read").
use Rattle.std.specs.Prelude.{ℕ, ◌*◌, ◌≡◌, true, List, length, get_or, Option as Maybe}
use Rattle.meaning.specs.Bounds.{tables_most}
use Rattle.meaning.specs.Reader.{Reader, ◌>>=◌, ◌>>◌, give, due}
use Rattle.meaning.specs.Signals.{Names}
use Rattle.meaning.specs.Timing.{Tables, timing}
use Rattle.meaning.specs.Meaning.{table_at}
use Rattle.words.specs.Cursor.{alive, Goes}
use Rattle.words.specs.declared.Cursor.{Cursor}
use Rattle.signals.specs.Names.{names_of, Chained, Unchained, Sized, front}
use Rattle.timing.specs.Marks.{table_size}
use Rattle.timing.specs.Held.{Held}
use Rattle.timing.specs.Watch.{Watched}
use Rattle.timing.specs.declared.Watch.{Watch}

unfoldable pub version : Reader ℕ
version = do
  due "STIL"
  due "1.0"
  due ";"

-- the signals, all names, and the tables
unfoldable pub declarations : Reader (Names × Names × Tables)
declarations = do
  version
  f ← front
  ts ← timing f.1
  give (f.0, f.1, ts)

-- arrays of the right length; no name in a chain, and no mark set
pub record Blank (places lists tplaces waves : List ℕ) : Type 0 where
  pub sized : Sized places lists
  pub unchained : Unchained places
  pub tables : length tplaces ≡ tables_most * 2
  pub marks : length waves ≡ tables_most * table_size
  pub unset : (i : ℕ) → get_or waves i 0 ≡ 0

-- THE PROMISE of the reader of all declarations: from c the definition goes to r, and the arrays hold what it answers
pub record Declares (text : List ℕ) (c r : Cursor) (places lists tplaces waves : List ℕ) (signals names tables : ℕ) (w : Watch) (sight : Maybe ℕ) : Type 0 where
  pub it : Tables
  pub goes : Goes text c declarations r (names_of text places lists signals, names_of text places lists names, it)
  pub held : alive r ≡ true → Held text tplaces waves tables it
  pub watched : alive r ≡ true → Watched text w sight (table_at it w.table)
  pub sized : Sized places lists
  pub chained : alive r ≡ true → Chained text places names
