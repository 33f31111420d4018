-- What is promised of measuring the statements in a Loop where the text holds them.
use Rattle.std.specs.Prelude.{ℕ, ◌<◌, ◌≤◌, ◌≡◌, true, false, List}
use Rattle.tokens.specs.Tokens.{Toks, left}
use Rattle.meaning.specs.Bounds.{depth_most}
use Rattle.meaning.specs.Body.{Body, done, depth}
use Rattle.meaning.specs.Statements.{Env}
use Rattle.meaning.proofs.Turns.{Plain}
use Rattle.held.specs.Held.{Holds}
use Rattle.words.specs.Cursor.{alive, stream}
use Rattle.signals.specs.Names.{AllTidy}
use Rattle.heads.specs.declared.Known.{Known}
use Rattle.heads.specs.Known.{Describes}
use Rattle.measures.specs.Measures.{Measures, joined}
use Rattle.plays.specs.declared.Ground.{Ground}
use Rattle.loops.specs.declared.Measured.{Measured}

-- a text and the tables that the code has of it, as far as statements need them
pub record Tables : Type 0 where
  pub text : List ℕ
  pub places : List ℕ
  pub lists : List ℕ
  pub tplaces : List ℕ
  pub book : List ℕ
  pub rows : List ℕ
  pub known : Known
  pub signals : ℕ

abbrev pub tables : (text places lists tplaces book rows : List ℕ) → Known → ℕ → Tables
tables text places lists tplaces book rows known signals = record {
  text = text;
  places = places;
  lists = lists;
  tplaces = tplaces;
  book = book;
  rows = rows;
  known = known;
  signals = signals;
}

-- as the code has them
abbrev pub tables_of : Ground → Tables
tables_of g = tables g.declared.text.now g.declared.places.now g.declared.lists.now g.declared.tplaces.now g.declared.book.now g.declared.rows.now g.declared.known g.signals

-- from ts the tokens hold the body b, behind which us stand: in it bodies stand `more` deep at most, and no `#` or Shift is its own
pub record Standing (g : Tables) (ts : Toks) (more : ℕ) (E : Env) (b : Body) (us : Toks) : Type 0 where
  pub describes : Describes g.text g.places g.lists g.tplaces g.book g.rows g.known E
  pub tidy : AllTidy g.signals E.names
  pub holds : Holds E ts b us
  pub deep : depth b ≤ more
  pub levels : more ≤ depth_most
  pub plain : Plain b

-- some body is held there
pub record Stood (g : Tables) (ts : Toks) (more : ℕ) : Type 0 where
  pub env : Env
  pub body : Body
  pub rest : Toks
  pub standing : Standing g ts more env body rest

-- the body b was measured, and the cursor is behind it
pub record Sums (g : Tables) (us : Toks) (b : Body) (r : Measured) : Type 0 where
  pub measured : Measures b r.measure
  pub on : alive r.cursor ≡ true
  pub behind : stream g.text r.cursor ≡ us

-- THE PROMISE: whatever body is held from ts on, it was measured
pub record Promised (g : Tables) (ts : Toks) (more : ℕ) (r : Measured) : Type 0 where
  pub sums : (E : Env) (b : Body) (us : Toks) → Standing g ts more E b us → Sums g us b r

-- ---- one statement

-- the statement `one`, which was measured; behind it the rest of the body b is held, of fewer tokens
pub record More (g : Tables) (ts : Toks) (more : ℕ) (E : Env) (b : Body) (us : Toks) (r : Measured) : Type 0 where
  pub one : Body
  pub rest : Body
  pub is : b ≡ joined one rest
  pub measured : Measures one r.measure
  pub standing : Standing g (stream g.text r.cursor) more E rest us
  pub less : left (stream g.text r.cursor) < left ts

-- the `}` of the body b, or a statement of b
pub record Steps (g : Tables) (ts : Toks) (more : ℕ) (E : Env) (b : Body) (us : Toks) (r : Measured) : Type 0 where
  pub on : alive r.cursor ≡ true
  pub ended : r.ends ≡ true → (b ≡ done) × (stream g.text r.cursor ≡ us)
  pub goes : r.ends ≡ false → More g ts more E b us r

pub record Stepped (g : Tables) (ts : Toks) (more : ℕ) (r : Measured) : Type 0 where
  pub steps : (E : Env) (b : Body) (us : Toks) → Standing g ts more E b us → Steps g ts more E b us r
