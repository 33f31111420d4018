-- What the code has of the listed patterns, and what its functions promise.
use Rattle.std.specs.Prelude.{ℕ, suc, ◌+◌, ◌*◌, ◌≤◌, ◌<◌, ◌≡◌, List, ltb, length, drop, Option as Maybe, Some, None}
use Rattle.std.proofs.Math.Option.{Option, none, some}
use Rattle.tokens.specs.Tokens.{Tok, toks}
use Rattle.meaning.specs.Bounds.{name_most, tables_most, patterns_most, list_most, cycles_most}
use Rattle.meaning.specs.Names.{find}
use Rattle.meaning.specs.Body.{Body}
use Rattle.meaning.specs.Statements.{Decl, Decls}
use Rattle.meaning.specs.Run.{cycles}
use Rattle.meaning.specs.Meaning.{given, run_of, firsts}
use Rattle.words.specs.Table.{name_of, names}
use Rattle.words.specs.Values.{told}
use Rattle.measures.specs.Book.{book_length, first_pattern, measure_at, Entry, Listed}
use Rattle.bursts.specs.Listed.{listed_in}
use Rattle.sections.specs.Listing.{count_most, line_most, Short}
use Rattle.index.specs.Index.{keywords, Block, blocks, lines_from, Index}
use Rattle.index.specs.declared.Share.{Share}

-- ---- room, whatever the digits of the numbers

-- a blank and a number
abbrev pub number_most : ℕ
number_most = 21

-- a name, three numbers and LF
abbrev pub pattern_most : ℕ
pattern_most = suc (name_most + 3 * number_most)

-- both sections
abbrev pub index_most : ℕ
index_most = (8 + count_most) + list_most * pattern_most + ((6 + count_most) + tables_most * line_most)

-- ---- the listed patterns

-- the names of the patterns in the book
abbrev pub names_in : List ℕ → List ℕ
names_in book = drop (first_pattern * 2) book

-- the book has the patterns ps; of these so many names are listed, and together they are the run
pub record Lists (text book list : List ℕ) (listed patterns : ℕ) (ps : Decls) (run : Body) : Type 0 where
  pub book_long : length book ≡ book_length
  pub patterns_are : Listed (Entry text book) first_pattern ps
  pub counted : length ps ≡ patterns
  pub few : patterns ≤ patterns_most
  pub few_listed : listed ≤ list_most
  pub short : Short (listed_in text list listed)
  pub run_is : run_of ps (listed_in text list listed) ≡ given run
  pub fits : cycles 0 run ≤ cycles_most

pub record SomeLists (text book list : List ℕ) (listed patterns : ℕ) : Type 0 where
  pub decls : Decls
  pub run : Body
  pub lists : Lists text book list listed patterns decls run

-- with their keywords
abbrev pub blocks_in : List ℕ → Decls → List (Tok × Block)
blocks_in text ps = blocks ps (keywords (toks text 0) (firsts ps))

-- ---- one of them

-- the listed name of number k stands for the pattern d
pub record Named (text book list : List ℕ) (patterns k : ℕ) (ps : Decls) (d : Decl) : Type 0 where
  pub book_long : length book ≡ book_length
  pub patterns_are : Listed (Entry text book) first_pattern ps
  pub counted : length ps ≡ patterns
  pub few : patterns ≤ patterns_most
  pub found : find ps (name_of text list k).word ≡ some d

pub record SomeNamed (text book list : List ℕ) (patterns k : ℕ) : Type 0 where
  pub decls : Decls
  pub decl : Decl
  pub named : Named text book list patterns k decls decl

-- its number among the patterns, and the cycles that the book has there
pub record Shares (text book list : List ℕ) (patterns k : ℕ) (r : Share) : Type 0 where
  pub number_is : told (ltb r.number patterns) r.number ≡ find (names text (names_in book) patterns) (name_of text list k).word
  pub below : r.number < patterns
  pub cycles_are : r.cycles ≡ (measure_at book (first_pattern + r.number)).cycles

-- ---- all of them

-- the index, where so many tables have these names
abbrev pub index_in : (text list tplaces : List ℕ) (listed tables : ℕ) → Decls → Index
index_in text list tplaces listed tables ps = record {
  patterns = lines_from 0 (blocks_in text ps) (listed_in text list listed);
  tables = firsts (names text tplaces tables);
}

-- which one holds a cycle, if any, as the code tells it
abbrev pub held_of : Maybe ℕ → Option ℕ
held_of None = none
held_of (Some k) = some k
