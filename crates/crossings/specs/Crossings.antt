-- What is promised of playing bodies where the text holds them, pair by pair.
use Rattle.std.specs.Prelude.{ℕ, ◌-◌, ◌<◌, ◌≡◌, Bool, true, false, List}
use Rattle.std.proofs.Math.Option.{some}
use Rattle.tokens.specs.Tokens.{Toks, left}
use Rattle.meaning.specs.Timing.{Tables}
use Rattle.meaning.specs.Body.{Assigns, Args, Body, done, vec}
use Rattle.meaning.specs.Run.{State, Played as Play, follow, again, entering, play}
use Rattle.meaning.specs.Statements.{Env}
use Rattle.meaning.proofs.Turns.{Plain}
use Rattle.meaning.specs.Edges.{failing_behind}
use Rattle.words.specs.Cursor.{alive, stream}
use Rattle.measures.specs.Uses.{Given}
use Rattle.heads.specs.Heads.{kind_of}
use Rattle.pins.specs.Shown.{Shows, Playable, vector}
use Rattle.plays.specs.declared.Played.{Played}
use Rattle.plays.specs.Plays.{Ground, Arrays, Sized, Standing, Kept, Using}
use Rattle.crossings.specs.declared.Seen.{Seen}
use Rattle.crossings.specs.Rows.{rows_of, Ample, row_at, Long, Passed, Clock, Timed, Fitted}

-- ---- what is played

-- some body is held from ts on, and there are tables of times and room for rows
pub record Stood (g : Ground) (k : Clock) (ts : Toks) (more level table : ℕ) (x : Arrays) (v : Seen) : Type 0 where
  pub env : Env
  pub body : Body
  pub rest : Toks
  pub state : State
  pub standing : Standing g ts more level table x env body rest state
  pub timed : Timed env.tables k
  pub sized : Sized g level x
  pub fitted : Fitted k
  pub ample : Ample v

-- ---- what is promised

-- what is told of a play p: that a pair of it is not in order, first at this place; or that each is, and the state at its end
pub record Told (tabs : Tables) (text : List ℕ) (signals : ℕ) (values : List ℕ) (table : ℕ) (feeds : List ℕ) (level rows : ℕ) (v w : Seen) (failed : Bool) (place : ℕ) (p : Play) : Type 0 where
  pub passed : Passed tabs signals rows v w failed place p.1
  pub shows : failed ≡ false → Shows text signals values table feeds level p.0

abbrev pub Tells : Ground → Tables → (level rows : ℕ) → Arrays → Seen → Seen → Played → Play → Type 0
Tells g tabs level rows y v w r p = Told tabs g.text g.signals y.values r.table y.feeds level rows v w r.failed r.place p

-- THE PROMISE: p was played, to its end, behind which us stand, or to the first pair that is not in order
pub record Plays (g : Ground) (tabs : Tables) (level rows : ℕ) (y : Arrays) (v w : Seen) (us : Toks) (r : Played) (p : Play) : Type 0 where
  pub tells : Tells g tabs level rows y v w r p
  pub behind : r.failed ≡ false → (alive r.cursor ≡ true) × (stream g.text r.cursor ≡ us)

-- whatever body is held from ts on, it was played
pub record Promised (g : Ground) (k : Clock) (ts : Toks) (more level table t : ℕ) (x y : Arrays) (v w : Seen) (r : Played) : Type 0 where
  pub kept : Kept level x y
  pub long : Long v w
  pub plays : (E : Env) (b : Body) (us : Toks) (s : State) → Standing g ts more level table x E b us s → Timed E.tables k
      → Plays g E.tables level (rows_of more) y v w us r (play t b s)

-- whatever V the assignments `given` are of, it was played t times
pub record Vectored (text given : List ℕ) (k : Clock) (signals level table place t rows : ℕ) (values values' feeds feeds' : List ℕ) (v w : Seen) (failed : Bool) : Type 0 where
  pub told : (tabs : Tables) → Timed tabs k → (a : Assigns) (s : State) → Given a given → Playable signals a s.args → Shows text signals values table feeds level s
      → Told tabs text signals values' table feeds' level rows v w failed place (again t (vector place a) s)

-- ---- one statement

-- it was played; the rest of b is held at the cursor, of fewer tokens
pub record Goes (g : Ground) (ts : Toks) (more level t : ℕ) (y : Arrays) (v w : Seen) (E : Env) (us : Toks) (b : Body) (s : State) (r : Played) : Type 0 where
  pub first : Play
  pub rest : Body
  pub is : play t b s ≡ follow first (play t rest)
  pub passed : Passed E.tables g.signals (rows_of more) v w false r.place first.1
  pub on : alive r.cursor ≡ true
  pub standing : Standing g (stream g.text r.cursor) more level r.table y E rest us first.0
  pub fewer : left (stream g.text r.cursor) < left ts

-- one statement of the body b was played: a pair is not in order; or it was the `}`; or a rest of b is left
pub record Steps (g : Ground) (ts : Toks) (more level t : ℕ) (y : Arrays) (v w : Seen) (E : Env) (us : Toks) (b : Body) (s : State) (r : Played) : Type 0 where
  pub fails : r.failed ≡ true → failing_behind E.tables (row_at g.signals v 0) (play t b s).1 ≡ some r.place
  pub ended : r.failed ≡ false → r.ends ≡ true → Plays g E.tables level (rows_of more) y v w us r (play t b s)
  pub goes : r.failed ≡ false → r.ends ≡ false → Goes g ts more level t y v w E us b s r

pub record Stepped (g : Ground) (k : Clock) (ts : Toks) (more level table t : ℕ) (x y : Arrays) (v w : Seen) (r : Played) : Type 0 where
  pub kept : Kept level x y
  pub long : Long v w
  pub steps : (E : Env) (b : Body) (us : Toks) (s : State) → Standing g ts more level table x E b us s → Timed E.tables k
      → Steps g ts more level t y v w E us b s r

-- whatever V a Shift holds from ts on, it was played t times
pub record Shifted (g : Ground) (k : Clock) (ts : Toks) (more level table t : ℕ) (x y : Arrays) (v w : Seen) (r : Played) : Type 0 where
  pub kept : Kept level x y
  pub long : Long v w
  pub goes_on : r.ends ≡ false
  pub plays : (E : Env) (p : ℕ) (a : Assigns) (us : Toks) (s : State) → Standing g ts more level table x E (vec p a done) us s → Timed E.tables k
      → Plays g E.tables level (rows_of more) y v w us r (again t (play t (vec p a done)) s)

-- whatever body without `#` a Loop of n turns holds from ts on, its turns were played; it stands one deeper than the Loop
pub record Looped (g : Ground) (k : Clock) (ts : Toks) (more level table t n : ℕ) (x y : Arrays) (v w : Seen) (r : Played) : Type 0 where
  pub kept : Kept level x y
  pub long : Long v w
  pub plays : (E : Env) (b : Body) (us : Toks) (s : State) → Standing g ts (more - 1) level table x E b us s → Plain b → Timed E.tables k
      → Plays g E.tables level (rows_of more) y v w us r (again n (play t b) s)

-- ---- a body that a statement uses

pub record Used (g : Ground) (k : Clock) (i more level table : ℕ) (x : Arrays) (v : Seen) : Type 0 where
  pub env : Env
  pub body : Body
  pub rest : Toks
  pub arguments : Args
  pub state : State
  pub use' : Using g i more level table x env body rest arguments state
  pub timed : Timed env.tables k
  pub sized : Sized g level x
  pub fitted : Fitted k
  pub ample : Ample v

-- it was played with its Shift t times, and the caller's arguments are there again, and where it is a procedure the caller's pins and table
pub record Entered (g : Ground) (k : Clock) (i more level table t : ℕ) (x y : Arrays) (v w : Seen) (r : Played) : Type 0 where
  pub kept : Kept level x y
  pub long : Long v w
  pub told : (E : Env) (b : Body) (us : Toks) (a : Args) (s : State) → Using g i more level table x E b us a s → Timed E.tables k
      → Tells g E.tables level (rows_of more) y v w r (entering (kind_of i) a (play t b) s)
