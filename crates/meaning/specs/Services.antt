-- The services as functions of the text, the numbers and the lent bytes (document 01, "The services"). The token service is that of `tokens`.
use Rattle.std.specs.Prelude.{ℕ, zero, suc, ◌+◌, ◌*◌, ◌-◌, min, Bool, true, false, ◌&&◌, ◌||◌, List, [], ◌∷◌, ◌++◌, length, take, drop, leb, eqb}
use Rattle.std.proofs.Math.Option.{Option, none, some}
use Rattle.tokens.specs.Bytes.{letter, digit}
use Rattle.tokens.specs.Tokens.{Tok}
use Rattle.meaning.specs.Refusals.{bad_data, no_such, no_room}
use Rattle.meaning.specs.Timing.{Event, Signed, plus, minus, uncounted}
unfoldable pub use Rattle.meaning.specs.Timing.{wave_of}
use Rattle.meaning.specs.Run.{Cycle, unassigned, size, cycles, cycles_of, visits}
use Rattle.meaning.specs.Meaning.{Answer, given, refused, answering, table_at, Meaning, meaning, firsts}

-- ---- Check: five numbers

pub record Counts : Type 0 where
  pub signals : ℕ
  pub tables : ℕ
  pub listed : ℕ
  pub cycles : ℕ
  pub size : ℕ

unfoldable pub counts : Meaning → Counts
counts m = record {
  signals = length m.signals;
  tables = length m.tables;
  listed = m.listed;
  cycles = cycles 0 m.run;
  size = size m.run;
}

unfoldable pub check : List ℕ → Answer Counts
check text = answering (meaning text) λ m. given (counts m)

-- ---- Name: the place and length of a signal's name, or a table's, by its number

pub data Which : Type 0 where
  signal table : Which

unfoldable pub names_of : Which → Meaning → List Tok
names_of signal m = m.signals
names_of table m = firsts m.tables

unfoldable pub name_at : List Tok → ℕ → Answer (ℕ × ℕ)
name_at [] k = refused no_such 0
name_at (t ∷ ts) zero = given (t.at, length t.word)
name_at (t ∷ ts) (suc k) = name_at ts k

unfoldable pub name_of : List ℕ → Which → ℕ → Answer (ℕ × ℕ)
name_of text w k = answering (meaning text) λ m. name_at (names_of w m) k

-- ---- Window: rows, and the visits

-- the marks that stand for an unassigned pin in filed listings, and where none is chosen
abbrev pub dot : ℕ
dot = 46

abbrev pub question : ℕ
question = 63

-- no mark: it could be a pin's character or the table's digit, or would end the row
unfoldable pub bad_mark : ℕ → Bool
bad_mark mark = letter mark || digit mark || eqb mark 10

-- what stands in a row for a signal: its character, or the mark
unfoldable pub shown : ℕ → ℕ → ℕ
shown mark c = elim (eqb c unassigned) [ true ↦ mark | false ↦ c ]

unfoldable pub shown_all : ℕ → List ℕ → List ℕ
shown_all mark [] = []
shown_all mark (c ∷ cs) = shown mark c ∷ shown_all mark cs

-- the table's number as a digit (a cycle without one is refused 17)
unfoldable pub digit_of : Option ℕ → ℕ
digit_of none = 48
digit_of (some k) = 48 + k

unfoldable pub row : ℕ → Cycle → List ℕ
row mark c = shown_all mark c.pins ++ digit_of c.table ∷ 10 ∷ []

unfoldable pub rows : ℕ → List Cycle → List ℕ
rows mark [] = []
rows mark (c ∷ cs) = row mark c ++ rows mark cs

-- the bytes of a row over n signals
unfoldable pub row_width : ℕ → ℕ
row_width n = n + 2

pub record Window : Type 0 where
  pub count : ℕ
  pub visits : ℕ
  pub buffer : List ℕ

-- min(wanted, cycles left)
unfoldable pub rows_due : Meaning → ℕ → ℕ → ℕ
rows_due m first wanted = min wanted (cycles 0 m.run - first)

unfoldable pub width_of : Meaning → ℕ
width_of m = row_width (length m.signals)

unfoldable pub window_rows : Meaning → ℕ → ℕ → ℕ → List ℕ
window_rows m first wanted mark = rows mark (take (rows_due m first wanted) (drop first (cycles_of (length m.signals) m.run)))

unfoldable pub rows_out : Meaning → ℕ → ℕ → ℕ → List ℕ → Answer Window
rows_out m first wanted mark buffer =
    let bytes = rows_due m first wanted * width_of m in
    elim (leb bytes (length buffer)) [
      | false ↦ refused no_room 0
      | true ↦ given (record {
        count = rows_due m first wanted;
        visits = visits 0 m.run first;
        buffer = window_rows m first wanted mark ++ drop bytes buffer;
      })
    ]

-- a mark is refused for itself, whatever rows are due
unfoldable pub window_of : Meaning → ℕ → ℕ → ℕ → List ℕ → Answer Window
window_of m first wanted mark buffer = elim (bad_mark mark) [ true ↦ refused bad_data 0 | false ↦ rows_out m first wanted mark buffer ]

unfoldable pub window : List ℕ → ℕ → ℕ → ℕ → List ℕ → Answer Window
window text first wanted mark buffer = answering (meaning text) λ m. window_of m first wanted mark buffer

-- ---- Waveform: the events of a table, signal and character

abbrev pub word_range : ℕ
word_range = 18_446_744_073_709_551_616

-- the 64 bits of a signed number of ps, negative ones in two's complement
unfoldable pub bits_of : Signed → ℕ
bits_of (plus n) = n
bits_of (minus n) = word_range - n

unfoldable pub times_of : List Event → List ℕ
times_of [] = []
times_of (e ∷ es) = bits_of (uncounted e.time) ∷ times_of es

unfoldable pub letters_of : List Event → List ℕ
letters_of [] = []
letters_of (e ∷ es) = e.letter ∷ letters_of es

pub record Waveform : Type 0 where
  pub count : ℕ
  pub times : List ℕ
  pub letters : List ℕ

unfoldable pub events_out : List Event → List ℕ → List ℕ → Answer Waveform
events_out es times letters =
    elim (leb (length es) (length times) && leb (length es) (length letters)) [
      | false ↦ refused no_room 0
      | true ↦ given (record {
        count = length es;
        times = times_of es ++ drop (length es) times;
        letters = letters_of es ++ drop (length es) letters;
      })
    ]

unfoldable pub waveform : List ℕ → ℕ → ℕ → ℕ → List ℕ → List ℕ → Answer Waveform
waveform text k s c times letters = answering (meaning text) λ m.
    elim (wave_of s c (table_at m.tables k)) [
      | none ↦ refused no_such 0
      | some es ↦ events_out es times letters
    ]
