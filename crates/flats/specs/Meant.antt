-- What the code has of an accepted text that is folded, and what is promised of its rows, window by window, and of its Patterns, one listed pattern after the other.
use Rattle.std.specs.Prelude.{Some, ℕ, ◌+◌, ◌*◌, ◌≤◌, ◌≡◌, false, List, [], ◌∷◌, length}
use Rattle.meaning.specs.Run.{size, cycles, cycles_of}
use Rattle.meaning.specs.Meaning.{given, Meaning, meaning, firsts}
use Rattle.words.specs.Table.{names}
use Rattle.meaning.specs.Document.{Read}
use Rattle.walks.specs.Seen.{seen}
use Rattle.texts.specs.declared.Parts.{Parts as Read'}
use Rattle.plays.specs.Plays.{Ground}
use Rattle.plays.specs.Run.{Runs}
use Rattle.folded.specs.Pieces.{Piece, laid, each}
use Rattle.folded.specs.Flat.{Row, rows_of, listed_rows, lines_of, patterns_of}
use Rattle.folded.specs.Layout.{pattern_put, named_from, or_one}
use Rattle.folded.specs.Walk.{walked, walked_all, begun_all}
use Rattle.folded.specs.Fold.{folded_most}
use Rattle.pens.specs.Pens.{Writes}
use Rattle.pens.specs.declared.Pen.{Pen}
use Rattle.stretches.specs.Rows.{words_in}
use Rattle.stretches.specs.Folding.{Onward, Taking, Takes}
use Rattle.stretches.specs.declared.Folding.{Folding}
use Rattle.flats.specs.declared.Part.{Part}

-- the tables hold an accepted text, whose run is of this size and has no more cycles than are folded
pub record Meant (g : Ground) (list : List ℕ) (listed patterns sized : ℕ) (m : Meaning) : Type 0 where
  pub parts : Read'
  pub read : Read
  pub runs : Runs g.text g.places g.lists g.tplaces g.waves g.book g.rows list g.known g.signals listed patterns parts read m.run
  pub meant : meaning g.text ≡ given m
  pub size_is : size m.run ≡ sized
  pub few : cycles 0 m.run ≤ folded_most
  pub signals_are : m.signals ≡ firsts (names g.text g.places g.signals)
  pub tables_are : firsts m.tables ≡ firsts (names g.text g.tplaces g.known.tables)

pub record SomeMeant (g : Ground) (list : List ℕ) (listed patterns sized : ℕ) : Type 0 where
  pub it : Meaning
  pub is_meant : Meant g list listed patterns sized it

-- the names of its signals and tables
abbrev pub signals_in : Ground → List (List ℕ)
signals_in g = words_in g.text g.places g.signals

abbrev pub tables_in : Ground → List (List ℕ)
tables_in g = words_in g.text g.tplaces g.known.tables

-- ---- some cycles

-- there are so many from a cycle on, and there is room for their rows
pub record Window (g : Ground) (list : List ℕ) (listed patterns sized first due : ℕ) (f : Folding) (hand buffer : List ℕ) : Type 0 where
  pub it : Meaning
  pub is_meant : Meant g list listed patterns sized it
  pub there : first + due ≤ cycles 0 it.run
  pub room : due * (g.signals + 2) ≤ length buffer
  pub taking : Taking g.signals f due hand

pub record Shows (g : Ground) (list : List ℕ) (listed patterns sized first due : ℕ) (entry : List ℕ) (f : Folding) (hand exit : List ℕ) (r : Folding) (hand' : List ℕ) : Type 0 where
  pub shown : List Row
  pub many : length shown ≡ due
  pub takes : Takes (signals_in g) (tables_in g) g.signals entry f hand shown exit r hand'
  pub are : (m : Meaning) → Meant g list listed patterns sized m → first + due ≤ cycles 0 m.run → shown ≡ rows_of (seen first due (cycles_of g.signals m.run))

-- ---- one listed pattern

pub record Listed (g : Ground) (list : List ℕ) (listed patterns sized first count i : ℕ) (hand buffer : List ℕ) : Type 0 where
  pub it : Meaning
  pub is_meant : Meant g list listed patterns sized it
  pub there : first + count ≤ cycles 0 it.run
  pub few : i ≤ first + listed
  pub long : g.signals + 2 ≤ length hand
  pub room : g.signals + 2 ≤ length buffer

pub record Parts (g : Ground) (list : List ℕ) (listed patterns sized first count : ℕ) (entry : List ℕ) (pen : Pen) (i : ℕ) (exit : List ℕ) (r : Part) : Type 0 where
  pub shown : List Row
  pub on : (behind : ℕ → List Piece) → Onward entry pen (laid (walked (signals_in g) (tables_in g) i shown behind)) exit r.pen (laid (behind r.pattern))
  pub counts : r.pattern ≡ i + begun_all (shown ∷ [])
  pub few : r.pattern ≤ i + count + 1
  pub are : (m : Meaning) → Meant g list listed patterns sized m → first + count ≤ cycles 0 m.run → shown ≡ rows_of (seen first count (cycles_of g.signals m.run))

-- ---- all of them

pub record Run (g : Ground) (list : List ℕ) (listed patterns sized : ℕ) (hand buffer : List ℕ) : Type 0 where
  pub it : Meaning
  pub is_meant : Meant g list listed patterns sized it
  pub long : g.signals + 2 ≤ length hand
  pub room : g.signals + 2 ≤ length buffer

pub record Patterned (g : Ground) (list : List ℕ) (listed patterns sized : ℕ) (entry exit : List ℕ) (r : Part) : Type 0 where
  pub written : (m : Meaning) → Meant g list listed patterns sized m → Writes entry (record { at = Some 0 }) (laid (walked_all (signals_in g) (tables_in g) 0 (listed_rows g.signals m.run) [])) exit r.pen
  pub counts : (m : Meaning) → Meant g list listed patterns sized m → r.pattern ≡ begun_all (listed_rows g.signals m.run)

-- with the one that is written where none is listed
pub record Bodied (g : Ground) (list : List ℕ) (listed patterns sized : ℕ) (entry exit : List ℕ) (r : Part) : Type 0 where
  pub written : (m : Meaning) → Meant g list listed patterns sized m → Writes entry (record { at = Some 0 }) (laid (each (pattern_put (signals_in g) (tables_in g)) (named_from 0 (or_one (lines_of (patterns_of m)))) [])) exit r.pen
  pub counts : (m : Meaning) → Meant g list listed patterns sized m → r.pattern ≡ length (patterns_of m)
