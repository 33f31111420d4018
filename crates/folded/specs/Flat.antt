-- What is left of an accepted text when it is folded flat (request 11, docs/FOLDED.md): signals with their directions, tables with their
-- periods and waveforms, and the rows of each listed pattern as stretches in Patterns.
use Rattle.std.specs.Prelude.{ℕ, zero, suc, ◌+◌, Bool, true, false, not, ◌&&◌, ◌||◌, List, [], ◌∷◌, ◌++◌, length, eqb}
use Rattle.std.proofs.Math.Option.{Option, none, some}
use Rattle.tokens.specs.Written.{same}
use Rattle.tokens.specs.Tokens.{Tok, Toks, stop, tok, toks}
use Rattle.meaning.specs.Timing.{Event, Wave, Tables}
use Rattle.meaning.specs.Body.{Assigns, Body, done, vec, set', inner}
use Rattle.meaning.specs.Run.{Cycle, unassigned, cycles_of, alone}
use Rattle.meaning.specs.Meaning.{Meaning}
use Rattle.meaning.specs.Services.{wave_of}

-- ---- signals

unfoldable pub first_word : Toks → List ℕ
first_word (stop n p) = []
first_word (tok t ts) = t.word

-- a signal's direction: the word behind its name
unfoldable pub direction : List ℕ → Tok → List ℕ
direction text t = first_word (toks text (t.at + length t.word))

-- name and direction
unfoldable pub directed : List ℕ → List Tok → List (List ℕ × List ℕ)
directed text [] = []
directed text (t ∷ ts) = (t.word, direction text t) ∷ directed text ts

-- ---- tables

-- n numbers from a on
unfoldable pub up_from : ℕ → ℕ → List ℕ
up_from a zero = []
up_from a (suc n) = a ∷ up_from (suc a) n

-- all waveform characters in the order of their bytes: digits, capital letters, small ones
unfoldable pub characters : List ℕ
characters = up_from 48 10 ++ up_from 65 26 ++ up_from 97 26

-- a signal's characters that have a waveform, each with its events
abbrev pub Entries : Type 0
Entries = List (ℕ × List Event)

unfoldable pub entries_of : ℕ → List Wave → List ℕ → Entries
entries_of s ws [] = []
entries_of s ws (c ∷ cs) = elim (wave_of s c ws) [ none ↦ entries_of s ws cs | some es ↦ (c, es) ∷ entries_of s ws cs ]

-- a signal's name and number, and its entries in a table: the first, and those behind it
pub record Chart : Type 0 where
  pub name : List ℕ
  pub signal : ℕ
  pub first : ℕ × List Event
  pub others : Entries

-- only a signal with a character has a chart
unfoldable pub chart : List ℕ → ℕ → Entries → List Chart → List Chart
chart n s [] rest = rest
chart n s (x ∷ xs) rest = record { name = n; signal = s; first = x; others = xs } ∷ rest

-- the charts of the signals from number s on
unfoldable pub charts_from : ℕ → List Tok → List Wave → List Chart
charts_from s [] ws = []
charts_from s (t ∷ ts) ws = chart t.word s (entries_of s ws characters) (charts_from (suc s) ts ws)

pub record Sheet : Type 0 where
  pub name : List ℕ
  pub period : ℕ
  pub charts : List Chart

unfoldable pub sheets : List Tok → Tables → List Sheet
sheets signals [] = []
sheets signals (x ∷ xs) = record { name = x.0.word; period = x.1.period; charts = charts_from 0 signals x.1.waves } ∷ sheets signals xs

-- ---- rows

pub record Row : Type 0 where
  pub table : ℕ
  pub pins : List ℕ

-- a cycle without a table is refused 17
unfoldable pub table_of : Option ℕ → ℕ
table_of none = 0
table_of (some k) = k

unfoldable pub row_of : Cycle → Row
row_of c = record { table = table_of c.table; pins = c.pins }

unfoldable pub rows_of : List Cycle → List Row
rows_of [] = []
rows_of (c ∷ cs) = row_of c ∷ rows_of cs

unfoldable pub same_row : Row → Row → Bool
same_row x y = eqb x.table y.table && same x.pins y.pins

-- the rows of each listed pattern of a run over n signals
unfoldable pub listed_rows : ℕ → Body → List (List Row)
listed_rows n done = []
listed_rows n (vec p a r) = listed_rows n r
listed_rows n (set' x r) = listed_rows n r
listed_rows n (inner w b r) = rows_of (cycles_of n (alone b)) ∷ listed_rows n r

-- ---- Patterns

-- does some pin go from assigned to unassigned
unfoldable pub loses : List ℕ → List ℕ → Bool
loses [] ds = false
loses (c ∷ cs) [] = false
loses (c ∷ cs) (d ∷ ds) = not (eqb c unassigned) && eqb d unassigned || loses cs ds

-- does a Pattern begin between a row and those behind it
unfoldable pub breaks : Row → List Row → Bool
breaks x [] = false
breaks x (y ∷ ys) = loses x.pins y.pins

-- a row before the Patterns of the rows behind it
unfoldable pub onto : Row → List (List Row) → List (List Row)
onto x [] = (x ∷ []) ∷ []
onto x (p ∷ ps) = elim (breaks x p) [ true ↦ (x ∷ []) ∷ p ∷ ps | false ↦ (x ∷ p) ∷ ps ]

-- the Patterns of a listed pattern's rows: one, also without rows, and one more wherever a pin loses its value
unfoldable pub parted : List Row → List (List Row)
parted [] = [] ∷ []
parted (x ∷ xs) = onto x (parted xs)

unfoldable pub parted_all : List (List Row) → List (List Row)
parted_all [] = []
parted_all (l ∷ ls) = parted l ++ parted_all ls

-- ---- stretches: equal rows, and how many

abbrev pub Stretch : Type 0
Stretch = Row × ℕ

unfoldable pub longer : Row → List Stretch → List Stretch
longer x [] = (x, 1) ∷ []
longer x (y ∷ ys) = elim (same_row x y.0) [ true ↦ (y.0, suc y.1) ∷ ys | false ↦ (x, 1) ∷ y ∷ ys ]

unfoldable pub stretches : List Row → List Stretch
stretches [] = []
stretches (x ∷ xs) = longer x (stretches xs)

-- ---- statements

pub data Line : Type 0 where
  -- `W`, the table of a number
  chooses : ℕ → Line
  -- a row's values so many times: `V`, or `Loop` from 2 on
  repeats : ℕ → Assigns → Line

-- every pin that has a value, from signal s on
unfoldable pub valued : ℕ → List ℕ → Assigns
valued s [] = []
valued s (c ∷ cs) = elim (eqb c unassigned) [ true ↦ valued (suc s) cs | false ↦ (s, c) ∷ valued (suc s) cs ]

-- the table k, if it is not the one before
unfoldable pub choosing : Option ℕ → ℕ → List Line → List Line
choosing none k ls = chooses k ∷ ls
choosing (some j) k ls = elim (eqb j k) [ true ↦ ls | false ↦ chooses k ∷ ls ]

-- a Pattern's statements, where that table is in force
unfoldable pub lines_from : Option ℕ → List Stretch → List Line
lines_from before [] = []
lines_from before (x ∷ xs) = choosing before x.0.table (repeats x.1 (valued 0 x.0.pins) ∷ lines_from (some x.0.table) xs)

unfoldable pub lines_of : List (List Row) → List (List Line)
lines_of [] = []
lines_of (p ∷ ps) = lines_from none (stretches p) ∷ lines_of ps

-- ---- all of it

pub record Flat : Type 0 where
  pub signals : List (List ℕ × List ℕ)
  pub tables : List Sheet
  pub patterns : List (List Line)

-- the Patterns of a run
unfoldable pub patterns_of : Meaning → List (List Row)
patterns_of m = parted_all (listed_rows (length m.signals) m.run)

unfoldable pub flat : List ℕ → Meaning → Flat
flat text m = record { signals = directed text m.signals; tables = sheets m.signals m.tables; patterns = lines_of (patterns_of m) }
