-- What is promised of the table of references, which has a place for each label, and of filling it where the text holds a pattern's statements.
use Rattle.std.specs.Prelude.{ℕ, zero, suc, ◌+◌, ◌<◌, ◌≤◌, ◌≡◌, true, false, List, [], ◌++◌, length, get_or}
use Rattle.std.proofs.Math.Option.{Option, none, some, or_else}
use Rattle.tokens.specs.Tokens.{Tok, Toks, left}
use Rattle.meaning.specs.Bounds.{cycles_most}
use Rattle.meaning.specs.Names.{find}
use Rattle.meaning.specs.Body.{Body, done, depth}
use Rattle.meaning.specs.Statements.{Env}
use Rattle.meaning.specs.Run.{cycles}
use Rattle.meaning.proofs.Turns.{Plain}
use Rattle.held.specs.Held.{Holds}
use Rattle.words.specs.Cursor.{alive, stream}
use Rattle.labels.specs.Table.{words_of, number_of}
use Rattle.heads.specs.declared.Known.{Known}
use Rattle.heads.specs.declared.Declared.{Declared}
use Rattle.heads.specs.Known.{Describes}
use Rattle.references.specs.References.{referred}
use Rattle.references.specs.declared.Passed.{Passed}

-- ---- the table

-- a place has 1 and the cycles before an X, or 0 where the label is no X of this pattern
abbrev pub counted : ℕ → Option ℕ
counted zero = none
counted (suc n) = some n

-- what it has for a word
unfoldable pub noted : (text labels : List ℕ) → ℕ → List ℕ → List ℕ → Option ℕ
noted text labels count table w = elim (number_of (words_of text labels count) w) [ none ↦ none | some k ↦ counted (get_or table k 0) ]

-- each label has what it had, or else what the first of the X names xs says
pub record Filled (text labels : List ℕ) (count : ℕ) (table : List ℕ) (xs : List (Tok × ℕ)) (table' : List ℕ) : Type 0 where
  pub long : length table' ≡ length table
  pub each : (w : List ℕ) (k : ℕ) → number_of (words_of text labels count) w ≡ some k → counted (get_or table' k 0) ≡ or_else (counted (get_or table k 0)) (find xs w)

-- ---- the statements of a pattern

-- a text and the tables that the code has of it, as far as they are needed
pub record Tables : Type 0 where
  pub text : List ℕ
  pub places : List ℕ
  pub lists : List ℕ
  pub tplaces : List ℕ
  pub book : List ℕ
  pub rows : List ℕ
  pub known : Known
  pub labels : List ℕ
  pub count : ℕ

abbrev pub tables : (text places lists tplaces book rows : List ℕ) → Known → (labels : List ℕ) → ℕ → Tables
tables text places lists tplaces book rows known labels count = record {
  text = text;
  places = places;
  lists = lists;
  tplaces = tplaces;
  book = book;
  rows = rows;
  known = known;
  labels = labels;
  count = count;
}

-- as the code has them
abbrev pub tables_of : Declared → (labels : List ℕ) → ℕ → Tables
tables_of d = tables d.text.now d.places.now d.lists.now d.tplaces.now d.book.now d.rows.now d.known

-- from ts the tokens hold the body b, behind which us stand, and n cycles come before it: in it bodies stand `more` deep at most, no Shift is its own, and its
-- last cycle is within the bound
pub record Standing (g : Tables) (ts : Toks) (more n : ℕ) (E : Env) (b : Body) (us : Toks) : Type 0 where
  pub describes : Describes g.text g.places g.lists g.tplaces g.book g.rows g.known E
  pub holds : Holds E ts b us
  pub deep : depth b ≤ more
  pub plain : Plain b
  pub few : n + cycles 0 b ≤ cycles_most

-- some body is held there
pub record Stood (g : Tables) (ts : Toks) (more n : ℕ) : Type 0 where
  pub env : Env
  pub body : Body
  pub rest : Toks
  pub standing : Standing g ts more n env body rest

-- the table has the X names of the body b too, and the cursor is behind it
pub record Fills (g : Tables) (ts : Toks) (n : ℕ) (E : Env) (b : Body) (us : Toks) (table : List ℕ) (r : Passed) (table' : List ℕ) : Type 0 where
  pub filled : Filled g.text g.labels g.count table (referred E ts n b) table'
  pub cycles_are : r.cycles ≡ n + cycles 0 b
  pub on : alive r.cursor ≡ true
  pub there : stream g.text r.cursor ≡ us
  pub less : left us < left ts

-- THE PROMISE: whatever body is held from ts on
pub record Promised (g : Tables) (ts : Toks) (more n : ℕ) (table : List ℕ) (r : Passed) (table' : List ℕ) : Type 0 where
  pub fills : (E : Env) (b : Body) (us : Toks) → Standing g ts more n E b us → Fills g ts n E b us table r table'

-- ---- one statement

-- a statement of the body b, with the X names xs; behind it the rest of b is held, of fewer tokens
pub record More (g : Tables) (ts : Toks) (more n : ℕ) (E : Env) (b : Body) (us : Toks) (table : List ℕ) (r : Passed) (table' : List ℕ) : Type 0 where
  pub xs : List (Tok × ℕ)
  pub rest : Body
  pub filled : Filled g.text g.labels g.count table xs table'
  pub all : referred E ts n b ≡ xs ++ referred E (stream g.text r.cursor) r.cycles rest
  pub sum : n + cycles 0 b ≡ r.cycles + cycles 0 rest
  pub standing : Standing g (stream g.text r.cursor) more r.cycles E rest us
  pub less : left (stream g.text r.cursor) < left ts

-- the `}` of the body b, which has no statement
pub record Ended (g : Tables) (ts : Toks) (n : ℕ) (b : Body) (us : Toks) (table : List ℕ) (r : Passed) (table' : List ℕ) : Type 0 where
  pub is : b ≡ done
  pub there : stream g.text r.cursor ≡ us
  pub cycles_are : r.cycles ≡ n
  pub filled : Filled g.text g.labels g.count table [] table'
  pub less : left us < left ts

-- one of the two
pub record Steps (g : Tables) (ts : Toks) (more n : ℕ) (E : Env) (b : Body) (us : Toks) (table : List ℕ) (r : Passed) (table' : List ℕ) : Type 0 where
  pub on : alive r.cursor ≡ true
  pub ended : r.ends ≡ true → Ended g ts n b us table r table'
  pub goes : r.ends ≡ false → More g ts more n E b us table r table'

pub record Stepped (g : Tables) (ts : Toks) (more n : ℕ) (table : List ℕ) (r : Passed) (table' : List ℕ) : Type 0 where
  pub steps : (E : Env) (b : Body) (us : Toks) → Standing g ts more n E b us → Steps g ts more n E b us table r table'
