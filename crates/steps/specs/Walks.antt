-- What is promised of the walk to a cycle and of the rows from there on, through bodies where the text holds them.
use Rattle.std.specs.Prelude.{ℕ, ◌+◌, ◌*◌, ◌-◌, ◌<◌, ◌≤◌, ◌≡◌, true, false, List, ◌++◌, length, get_or, leb}
use Rattle.std.proofs.Math.Option.{none}
use Rattle.tokens.specs.Tokens.{Toks, left}
use Rattle.meaning.specs.Bounds.{size_most, cycles_most}
use Rattle.meaning.specs.Timing.{Tables}
use Rattle.meaning.specs.Body.{Assigns, Args, Way, looped, shifted, entered, Body, done, vec, inner}
use Rattle.meaning.specs.Run.{State, Cycle, Played as Play, size, cycles, visits, play}
use Rattle.meaning.specs.Meaning.{first_failing}
use Rattle.meaning.specs.Services.{row_width}
use Rattle.meaning.specs.Statements.{Env}
use Rattle.meaning.proofs.Turns.{Plain}
use Rattle.words.specs.Cursor.{alive, stream}
use Rattle.measures.specs.Measures.{Measures}
use Rattle.measures.specs.Book.{measure_at}
use Rattle.heads.specs.Heads.{kind_of}
use Rattle.walks.specs.Statement.{played_in}
use Rattle.plays.specs.declared.Frame.{Frame}
use Rattle.plays.specs.Plays.{Ground, Arrays, Sized, Showing, Standing, Kept, Using}
use Rattle.rows.specs.declared.Walk.{Walk}
use Rattle.rows.specs.Went.{over, Going, spends, Went}
use Rattle.rows.specs.Again.{Again}
use Rattle.steps.specs.declared.Walked.{Walked}

-- how what is passed is played
abbrev pub once_of : Frame → Frame
once_of f = record { seconds = 0; turns = f.turns; depth = f.depth; level = f.level }

-- ---- what is gone through

-- a body that a window can go through from the state s: it is within the bounds, no cycle of it fails, and what the way through it costs can be paid
pub record Ready (tabs : Tables) (t : ℕ) (b : Body) (s : State) (w : Walk) : Type 0 where
  pub few_cycles : cycles t b ≤ cycles_most
  pub small : size b ≤ size_most
  pub sound : first_failing tabs (play t b s).1 ≡ none
  pub pays : w.walking ≡ true → visits t b w.pass ≤ w.budget

-- some body is held from ts on, and can be gone through
pub record Stood (g : Ground) (ts : Toks) (more level table t : ℕ) (x : Arrays) (w : Walk) (buffer : List ℕ) : Type 0 where
  pub env : Env
  pub body : Body
  pub rest : Toks
  pub state : State
  pub standing : Standing g ts more level table x env body rest state
  pub ready : Ready env.tables t body state w
  pub sized : Sized g level x
  pub going : Going g.signals w buffer

-- ---- what is promised

-- the play p was gone through, v being the visits in it at the cycle looked for; unless nothing is left to do, the state is that at its end
pub record Tells (g : Ground) (level : ℕ) (y : Arrays) (p : Play) (v : ℕ) (w : Walk) (before after : List ℕ) (r : Walked) : Type 0 where
  pub went : Went g.signals p.1 v w r.walk before after
  pub shows : over r.walk ≡ false → Showing g level r.table y p.0

-- THE PROMISE: and us stand behind the cursor
pub record Walks (g : Ground) (level : ℕ) (y : Arrays) (us : Toks) (p : Play) (v : ℕ) (w : Walk) (before after : List ℕ) (r : Walked) : Type 0 where
  pub tells : Tells g level y p v w before after r
  pub behind : over r.walk ≡ false → (alive r.cursor ≡ true) × (stream g.text r.cursor ≡ us)

-- whatever body is held from ts on, it was gone through
pub record Promised (g : Ground) (ts : Toks) (more level table t : ℕ) (x y : Arrays) (w : Walk) (before after : List ℕ) (r : Walked) : Type 0 where
  pub kept : Kept level x y
  pub walks : (E : Env) (b : Body) (us : Toks) (s : State) → Standing g ts more level table x E b us s → Ready E.tables t b s w
      → Walks g level y us (play t b s) (visits t b w.pass) w before after r

-- ---- one statement

-- the first statement of a body and the rest: what each plays, and what each costs at the cycle n
pub record Parted (t : ℕ) (b : Body) (s : State) (n : ℕ) (first : List Cycle) (cost : ℕ) (rest : Body) (state : State) : Type 0 where
  pub cycles_are : (play t b s).1 ≡ first ++ (play t rest state).1
  pub left_is : (play t b s).0 ≡ (play t rest state).0
  pub visits_are : visits t b n ≡ cost + spends (leb (length first) n) (visits t rest (n - length first))
  pub rest_few : cycles t rest ≤ cycles t b
  pub rest_small : size rest ≤ size b

-- it was gone through; unless nothing is left to do, the rest is held at the cursor, of fewer tokens
pub record Goes (g : Ground) (ts : Toks) (more level t : ℕ) (y : Arrays) (E : Env) (us : Toks) (b : Body) (s : State) (w : Walk) (before after : List ℕ) (r : Walked) : Type 0 where
  pub first : List Cycle
  pub cost : ℕ
  pub rest : Body
  pub state : State
  pub parted : Parted t b s w.pass first cost rest state
  pub went : Went g.signals first cost w r.walk before after
  pub on : over r.walk ≡ false → alive r.cursor ≡ true
  pub standing : over r.walk ≡ false → Standing g (stream g.text r.cursor) more level r.table y E rest us state
  pub fewer : over r.walk ≡ false → left (stream g.text r.cursor) < left ts

-- one statement of the body b was gone through: the `}`, or one behind which a rest is left
pub record Steps (g : Ground) (ts : Toks) (more level t : ℕ) (y : Arrays) (E : Env) (us : Toks) (b : Body) (s : State) (w : Walk) (before after : List ℕ) (r : Walked) : Type 0 where
  pub ended : r.ends ≡ true → Walks g level y us (play t b s) (visits t b w.pass) w before after r
  pub goes : r.ends ≡ false → Goes g ts more level t y E us b s w before after r

pub record Stepped (g : Ground) (ts : Toks) (more level table t : ℕ) (x y : Arrays) (w : Walk) (before after : List ℕ) (r : Walked) : Type 0 where
  pub kept : Kept level x y
  pub steps : (E : Env) (b : Body) (us : Toks) (s : State) → Standing g ts more level table x E b us s → Ready E.tables t b s w
      → Steps g ts more level t y E us b s w before after r

-- ---- a statement with a body in it: it alone is a body too

abbrev pub only : Way → Body → Body
only w b = inner w b done

-- a Loop of n turns, whose body is held from ts on
pub record LoopStood (g : Ground) (ts : Toks) (more level table t n : ℕ) (x : Arrays) (w : Walk) (buffer : List ℕ) : Type 0 where
  pub env : Env
  pub body : Body
  pub rest : Toks
  pub state : State
  pub standing : Standing g ts more level table x env body rest state
  pub plain : Plain body
  pub ready : Ready env.tables t (only (looped n) body) state w
  pub sized : Sized g level x
  pub going : Going g.signals w buffer

pub record Looped (g : Ground) (ts : Toks) (more level table t n : ℕ) (x y : Arrays) (w : Walk) (before after : List ℕ) (r : Walked) : Type 0 where
  pub kept : Kept level x y
  pub goes_on : r.ends ≡ false
  pub walks : (E : Env) (b : Body) (us : Toks) (s : State) → Standing g ts more level table x E b us s → Plain b → Ready E.tables t (only (looped n) b) s w
      → Walks g level y us (play t (only (looped n) b) s) (visits t (only (looped n) b) w.pass) w before after r

-- n turns of it, of which the first has the cycle looked for, unless that was reached before
pub record Turning (g : Ground) (ts : Toks) (more level table t n : ℕ) (x : Arrays) (E : Env) (b : Body) (us : Toks) (s : State) (w : Walk) : Type 0 where
  pub standing : Standing g ts more level table x E b us s
  pub plain : Plain b
  pub within : w.walking ≡ true → w.pass < cycles t b
  pub few_cycles : n * cycles t b ≤ cycles_most
  pub small : size b ≤ size_most
  pub sound : first_failing E.tables (played_in t (looped n) b s).1 ≡ none
  pub pays : w.walking ≡ true → visits t b w.pass ≤ w.budget

pub record TurnStood (g : Ground) (ts : Toks) (more level table t n : ℕ) (x : Arrays) (w : Walk) (buffer : List ℕ) : Type 0 where
  pub some : 0 < n
  pub env : Env
  pub body : Body
  pub rest : Toks
  pub state : State
  pub turning : Turning g ts more level table t n x env body rest state w
  pub sized : Sized g level x
  pub going : Going g.signals w buffer

pub record Turned (g : Ground) (ts : Toks) (more level table t n : ℕ) (x y : Arrays) (w : Walk) (before after : List ℕ) (r : Walked) : Type 0 where
  pub kept : Kept level x y
  pub goes_on : r.ends ≡ false
  pub walks : (E : Env) (b : Body) (us : Toks) (s : State) → Turning g ts more level table t n x E b us s w
      → Walks g level y us (played_in t (looped n) b s) (visits t b w.pass) w before after r

-- ---- a turn's rows again

-- the first n bytes of two rows are the same
pub record Alike (n : ℕ) (v w : List ℕ) : Type 0 where
  pub each : (i : ℕ) → i < n → get_or v i 0 ≡ get_or w i 0

-- n turns of k cycles can be shown: the cycle looked for is reached, and there is room
pub record Copiable (signals k n : ℕ) (w : Walk) (buffer : List ℕ) : Type 0 where
  pub reached : w.walking ≡ false
  pub none_left : w.pass ≡ 0
  pub few : n * k ≤ cycles_most
  pub room : (w.row + w.show) * row_width signals ≤ length buffer

-- n turns were shown behind one whose rows are those from `shown` on; where it has none there was nothing to do
pub record Repeated (signals shown n : ℕ) (w w' : Walk) (before after : List ℕ) : Type 0 where
  pub none : w.row ≡ shown → (w' ≡ w) × (after ≡ before)
  pub again : shown < w.row → Again signals (w.row - shown) n w w' before after
  pub long : length after ≡ length before

-- a Shift, whose V is held from ts on
pub record ShiftStood (g : Ground) (ts : Toks) (more level table t : ℕ) (x : Arrays) (w : Walk) (buffer : List ℕ) : Type 0 where
  pub env : Env
  pub at : ℕ
  pub assigns : Assigns
  pub rest : Toks
  pub state : State
  pub standing : Standing g ts more level table x env (vec at assigns done) rest state
  pub ready : Ready env.tables t (only shifted (vec at assigns done)) state w
  pub sized : Sized g level x
  pub going : Going g.signals w buffer

pub record Shifted (g : Ground) (ts : Toks) (more level table t : ℕ) (x y : Arrays) (w : Walk) (before after : List ℕ) (r : Walked) : Type 0 where
  pub kept : Kept level x y
  pub goes_on : r.ends ≡ false
  pub walks : (E : Env) (p : ℕ) (a : Assigns) (us : Toks) (s : State) → Standing g ts more level table x E (vec p a done) us s
      → Ready E.tables t (only shifted (vec p a done)) s w
      → Walks g level y us (play t (only shifted (vec p a done)) s) (visits t (only shifted (vec p a done)) w.pass) w before after r

-- a body that a statement uses, by its number i, with its Shift played t times
pub record Use (g : Ground) (i more level table t : ℕ) (x : Arrays) (E : Env) (b : Body) (us : Toks) (a : Args) (s : State) (w : Walk) : Type 0 where
  pub use' : Using g i more level table x E b us a s
  pub measured : Measures b (measure_at g.book i)
  pub ready : Ready E.tables t (only (entered (kind_of i) t a) b) s w

pub record UseStood (g : Ground) (i more level table t : ℕ) (x : Arrays) (w : Walk) (buffer : List ℕ) : Type 0 where
  pub env : Env
  pub body : Body
  pub rest : Toks
  pub arguments : Args
  pub state : State
  pub used : Use g i more level table t x env body rest arguments state w
  pub sized : Sized g level x
  pub going : Going g.signals w buffer

-- it was gone through, and the caller's arguments are there again, and where it is a procedure the caller's pins and table
pub record Entered (g : Ground) (i more level table t : ℕ) (x y : Arrays) (w : Walk) (before after : List ℕ) (r : Walked) : Type 0 where
  pub kept : Kept level x y
  pub tells : (E : Env) (b : Body) (us : Toks) (a : Args) (s : State) → Use g i more level table t x E b us a s w
      → Tells g level y (play t (only (entered (kind_of i) t a) b) s) (visits t (only (entered (kind_of i) t a) b) w.pass) w before after r

-- one that is entered since it has the cycle looked for, or it is behind that
pub record Into (g : Ground) (i more level table t : ℕ) (x : Arrays) (E : Env) (b : Body) (us : Toks) (a : Args) (s : State) (w : Walk) : Type 0 where
  pub use' : Using g i more level table x E b us a s
  pub few_cycles : cycles t b ≤ cycles_most
  pub small : size b ≤ size_most
  pub sound : first_failing E.tables (played_in t (entered (kind_of i) t a) b s).1 ≡ none
  pub pays : w.walking ≡ true → visits t b w.pass ≤ w.budget

pub record IntoStood (g : Ground) (i more level table t : ℕ) (x : Arrays) (w : Walk) (buffer : List ℕ) : Type 0 where
  pub env : Env
  pub body : Body
  pub rest : Toks
  pub arguments : Args
  pub state : State
  pub into : Into g i more level table t x env body rest arguments state w
  pub sized : Sized g level x
  pub going : Going g.signals w buffer

pub record WentInto (g : Ground) (i more level table t : ℕ) (x y : Arrays) (w : Walk) (before after : List ℕ) (r : Walked) : Type 0 where
  pub kept : Kept level x y
  pub tells : (E : Env) (b : Body) (us : Toks) (a : Args) (s : State) → Into g i more level table t x E b us a s w
      → Tells g level y (played_in t (entered (kind_of i) t a) b s) (visits t b w.pass) w before after r
