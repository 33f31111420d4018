-- What is promised of summing up bodies where the text holds them.
use Rattle.std.specs.Prelude.{ℕ, ◌+◌, ◌*◌, ◌-◌, ◌<◌, ◌≤◌, ◌≡◌, Bool, true, false, List, length, get_or}
use Rattle.tokens.specs.Tokens.{Toks, toks, left}
use Rattle.meaning.specs.Bounds.{signals_most, tables_most, patterns_most, depth_most}
use Rattle.meaning.specs.Lists.{count}
use Rattle.meaning.specs.Body.{Assigns, Args, choosing, looped, shifted, entered, Body, done, vec, set', inner, depth, shifting}
use Rattle.meaning.specs.Statements.{Decl, Decls, Env}
use Rattle.meaning.proofs.Turns.{Plain, Good}
use Rattle.held.specs.Held.{Holds}
use Rattle.words.specs.Cursor.{alive, stream}
use Rattle.timing.specs.Marks.{table_size}
use Rattle.measures.specs.Measures.{joined}
use Rattle.measures.specs.Uses.{flag}
use Rattle.measures.specs.Book.{bodies, book_length, start_at}
use Rattle.arguments.specs.Supplied.{Supplied}
use Rattle.heads.specs.Heads.{kind_of}
use Rattle.heads.specs.declared.Known.{Known}
use Rattle.plays.specs.Plays.{Ground, grounded, Holding, Summed, Single}
use Rattle.sums.specs.Sums.{Sums}
use Rattle.plays.specs.Run.{ListedAt}
use Rattle.sums.specs.Parts.{Exact, Cleared}
use Rattle.tallies.specs.Rows.{row_size, byte_at, sum_at}
use Rattle.grants.specs.declared.Tallied.{Tallied}

-- ---- rows and marks

-- behind the rows of bodies that of a listed pattern, and one for each Loop around a place
abbrev pub pattern_row : ℕ
pattern_row = bodies

abbrev pub loops : ℕ
loops = pattern_row + 1

abbrev pub rows : ℕ
rows = loops + depth_most

-- the row of a Loop, in which bodies may stand `more` deep with the Loop
abbrev pub loop_row : ℕ → ℕ
loop_row more = rows - more

-- a body's mark where it is being summed up
abbrev pub is_begun : ℕ
is_begun = 3

-- a row that bodies at this depth and deeper don't write: that of a body of which something is known, of the pattern, or of a Loop around them
pub record Fixed (more : ℕ) (marks : List ℕ) (q : ℕ) : Type 0 where
  pub within : q < loop_row more
  pub known : q < bodies → get_or marks q 0 ≡ 0 → ⊥

-- one of them in which statements are summed up
pub record Open (more : ℕ) (marks : List ℕ) (q : ℕ) : Type 0 where
  pub within : q < loop_row more
  pub begun : q < bodies → get_or marks q 0 ≡ is_begun

-- what is kept: rows that are fixed, but for r; and marks of which something is known
pub record Kept (more r : ℕ) (marks marks' sums sums' : List ℕ) : Type 0 where
  pub marks_long : length marks' ≡ length marks
  pub sums_long : length sums' ≡ length sums
  pub marks_kept : (q : ℕ) → (get_or marks q 0 ≡ 0 → ⊥) → get_or marks' q 0 ≡ get_or marks q 0
  pub rows_kept : (q : ℕ) → Fixed more marks q → (q ≡ r → ⊥) → (p : ℕ) → p < row_size → byte_at sums' q p ≡ byte_at sums q p

-- the statements `one` were added to what the row r sums up; where there was a Shift, for a turn of it at least
pub record Added (g : Ground) (E : Env) (r : ℕ) (marks marks' sums sums' : List ℕ) (shifts : Bool) (one : Body) : Type 0 where
  pub summed : Summed g marks sums E → Summed g marks' sums' E
  pub sums_are : Summed g marks sums E → (front : Body) (t : ℕ) → (shifts ≡ true → 1 ≤ t) → Sums E.tables g.signals t front (sum_at sums r)
      → Sums E.tables g.signals t (joined front one) (sum_at sums' r)

-- unless there were two Shifts, no `#` stands twice in one
pub record Once (shifts twice : Bool) (one : Body) : Type 0 where
  pub once : twice ≡ false → (s : ℕ) → count s (shifting one) ≤ flag shifts

-- ---- statements from ts on

pub record Standing (g : Ground) (ts : Toks) (more : ℕ) (E : Env) (b : Body) (us : Toks) : Type 0 where
  pub holding : Holding g E
  pub holds : Holds E ts b us
  pub deep : depth b ≤ more
  pub levels : more ≤ depth_most
  pub single : Single b
  pub good : Good b

-- arrays of the right length, and a row to write that nothing deeper writes
pub record Sized (g : Ground) (more r : ℕ) (marks sums : List ℕ) : Type 0 where
  pub marks_long : length marks ≡ bodies
  pub sums_long : length sums ≡ rows * row_size
  pub waves_long : length g.waves ≡ tables_most * table_size
  pub few : g.signals ≤ signals_most
  pub row : Open more marks r

pub record Stood (g : Ground) (ts : Toks) (more r : ℕ) (marks sums : List ℕ) : Type 0 where
  pub env : Env
  pub body : Body
  pub rest : Toks
  pub standing : Standing g ts more env body rest
  pub sized : Sized g more r marks sums

-- the statements `one` were summed up in the row r, and us stand behind them
pub record Gone (g : Ground) (E : Env) (us : Toks) (r : ℕ) (marks marks' sums sums' : List ℕ) (one : Body) (x : Tallied) : Type 0 where
  pub added : Added g E r marks marks' sums sums' x.shifts one
  pub once : Once x.shifts x.twice one
  pub on : alive x.cursor ≡ true
  pub behind : stream g.text x.cursor ≡ us

-- THE PROMISE: whatever body is held from ts on, it was summed up
pub record Promised (g : Ground) (ts : Toks) (more r : ℕ) (marks marks' sums sums' : List ℕ) (x : Tallied) : Type 0 where
  pub kept : Kept more r marks marks' sums sums'
  pub gone : (E : Env) (b : Body) (us : Toks) → Standing g ts more E b us → Gone g E us r marks marks' sums sums' b x

-- ---- one statement

-- the `}` of the body b, or a statement `one` of it, behind which the rest of b is held, of fewer tokens
pub record Steps (g : Ground) (ts : Toks) (more r : ℕ) (marks marks' sums sums' : List ℕ) (E : Env) (b : Body) (us : Toks) (x : Tallied) : Type 0 where
  pub one : Body
  pub rest : Body
  pub is : b ≡ joined one rest
  pub added : Added g E r marks marks' sums sums' x.shifts one
  pub once : Once x.shifts x.twice one
  pub on : alive x.cursor ≡ true
  pub ended : x.ends ≡ true → (rest ≡ done) × (stream g.text x.cursor ≡ us)
  pub standing : x.ends ≡ false → Standing g (stream g.text x.cursor) more E rest us
  pub less : x.ends ≡ false → left (stream g.text x.cursor) < left ts

pub record Stepped (g : Ground) (ts : Toks) (more r : ℕ) (marks marks' sums sums' : List ℕ) (x : Tallied) : Type 0 where
  pub kept : Kept more r marks marks' sums sums'
  pub steps : (E : Env) (b : Body) (us : Toks) → Standing g ts more E b us → Steps g ts more r marks marks' sums sums' E b us x

-- ---- a Loop, from its body on

pub record LoopStood (g : Ground) (ts : Toks) (more n r : ℕ) (marks sums : List ℕ) : Type 0 where
  pub env : Env
  pub body : Body
  pub rest : Toks
  pub standing : Standing g ts (more - 1) env body rest
  pub some_turn : 1 ≤ n
  pub some_more : 0 < more
  pub levels : more ≤ depth_most
  pub sized : Sized g more r marks sums

pub record Looped (g : Ground) (ts : Toks) (more n r : ℕ) (marks marks' sums sums' : List ℕ) (x : Tallied) : Type 0 where
  pub kept : Kept more r marks marks' sums sums'
  pub goes_on : x.ends ≡ false
  pub gone : (E : Env) (b : Body) (us : Toks) → Standing g ts (more - 1) E b us → Plain b → Gone g E us r marks marks' sums sums' (inner (looped n) b done) x

-- ---- a Shift, from its V on

pub record ShiftStood (g : Ground) (ts : Toks) (r : ℕ) (sums : List ℕ) : Type 0 where
  pub env : Env
  pub place : ℕ
  pub assigns : Assigns
  pub rest : Toks
  pub holding : Holding g env
  pub holds : Holds env ts (vec place assigns done) rest
  pub room : r * row_size + row_size ≤ length sums
  pub waves_long : length g.waves ≡ tables_most * table_size
  pub few : g.signals ≤ signals_most

pub record Shifted (g : Ground) (ts : Toks) (more r : ℕ) (marks sums sums' : List ℕ) (x : Tallied) : Type 0 where
  pub kept : Kept more r marks marks sums sums'
  pub goes_on : x.ends ≡ false
  pub gone : (E : Env) (p : ℕ) (a : Assigns) (us : Toks) → Holding g E → Holds E ts (vec p a done) us
      → Gone g E us r marks marks sums sums' (inner shifted (vec p a done) done) x

-- ---- a body that a statement uses

-- the declared body b of number i, in which bodies may stand `more` deep
pub record Declared (g : Ground) (more i : ℕ) (E : Env) (b : Body) (us : Toks) : Type 0 where
  pub number : i < bodies
  pub standing : Standing g (toks g.text (start_at g.book i)) more E b us

-- used with the arguments a, which fit it for t turns of its Shift
pub record Using (g : Ground) (more i t : ℕ) (given args : List ℕ) (E : Env) (b : Body) (us : Toks) (a : Args) : Type 0 where
  pub declared : Declared g (more - 1) i E b us
  pub supplied : Supplied g.text a given args
  pub exact : ((s : ℕ) → count s (shifting b) ≤ 1) → Exact t b a

pub record UseStood (g : Ground) (more i t r : ℕ) (given args marks sums : List ℕ) : Type 0 where
  pub env : Env
  pub body : Body
  pub rest : Toks
  pub arguments : Args
  pub use' : Using g more i t given args env body rest arguments
  pub some_more : 0 < more
  pub levels : more ≤ depth_most
  pub given_long : length given ≡ signals_most
  pub sized : Sized g more r marks sums

pub record Used (g : Ground) (more i t r : ℕ) (given args marks marks' sums sums' : List ℕ) : Type 0 where
  pub kept : Kept more r marks marks' sums sums'
  pub added : (E : Env) (b : Body) (us : Toks) (a : Args) → Using g more i t given args E b us a
      → Added g E r marks marks' sums sums' false (inner (entered (kind_of i) t a) b done)

-- a declared body
pub record BodyStood (g : Ground) (more i : ℕ) (marks sums : List ℕ) : Type 0 where
  pub env : Env
  pub body : Body
  pub rest : Toks
  pub declared : Declared g more i env body rest
  pub marks_long : length marks ≡ bodies
  pub sums_long : length sums ≡ rows * row_size
  pub waves_long : length g.waves ≡ tables_most * table_size
  pub few : g.signals ≤ signals_most

-- was summed up
pub record Bodied (g : Ground) (more i : ℕ) (marks marks' sums sums' : List ℕ) : Type 0 where
  pub kept : (r : ℕ) → Kept more r marks marks' sums sums'
  pub summed : (E : Env) (b : Body) (us : Toks) → Declared g more i E b us → Summed g marks sums E → Summed g marks' sums' E

-- ---- a listed pattern

pub record Roomy (g : Ground) (marks sums : List ℕ) : Type 0 where
  pub marks_long : length marks ≡ bodies
  pub sums_long : length sums ≡ rows * row_size
  pub waves_long : length g.waves ≡ tables_most * table_size
  pub few : g.signals ≤ signals_most

-- nothing is known
pub record Unknown (marks sums : List ℕ) : Type 0 where
  pub marks_long : length marks ≡ bodies
  pub sums_long : length sums ≡ rows * row_size
  pub unmarked : (i : ℕ) → get_or marks i 0 ≡ 0

pub record SomePattern (g : Ground) (list : List ℕ) (patterns k : ℕ) (marks sums : List ℕ) : Type 0 where
  pub env : Env
  pub decls : Decls
  pub decl : Decl
  pub listed_at : ListedAt g list patterns k env decls decl
  pub roomy : Roomy g marks sums

-- it is known to play, if r
pub record Patterned (g : Ground) (list : List ℕ) (patterns k : ℕ) (marks marks' sums sums' : List ℕ) (r : Bool) : Type 0 where
  pub roomy : Roomy g marks' sums'
  pub summed : (E : Env) (ps : Decls) (d : Decl) → ListedAt g list patterns k E ps d → Summed g marks sums E → Summed g marks' sums' E
  pub cleared : r ≡ true → (E : Env) (ps : Decls) (d : Decl) → ListedAt g list patterns k E ps d → Summed g marks sums E → Cleared E.tables g.signals d.body

-- ---- by what the text assigns at all

-- a table is chosen before all else
pub record TableFirst (b : Body) : Type 0 where
  pub table : ℕ
  pub rest : Body
  pub is : b ≡ set' (choosing table) rest

-- so it is in the pattern of the listed name of number k, whatever text holds it
pub record ListedFirst (text book list : List ℕ) (patterns k : ℕ) : Type 0 where
  pub first : (places lists tplaces rows waves : List ℕ) (known : Known) (signals : ℕ) (E : Env) (ps : Decls) (d : Decl)
      → ListedAt (grounded text places lists tplaces book rows waves known signals) list patterns k E ps d → TableFirst d.body

-- arrays of the right length, and bounds
pub record Marking (book waves used : List ℕ) (tables patterns : ℕ) : Type 0 where
  pub book_long : length book ≡ book_length
  pub waves_long : length waves ≡ tables_most * table_size
  pub used_long : length used ≡ table_size
  pub few_tables : tables ≤ tables_most
  pub few_patterns : patterns ≤ patterns_most
