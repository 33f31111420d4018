-- What is promised of playing bodies where the text holds them.
use Rattle.std.specs.Prelude.{ℕ, ◌+◌, ◌*◌, ◌-◌, ◌<◌, ◌≤◌, ◌≡◌, true, false, List, length, get_or, Option as Maybe, Some, None}
use Rattle.std.proofs.Math.Option.{Option, none, some}
use Rattle.tokens.specs.Tokens.{Toks, toks, left}
use Rattle.meaning.specs.Bounds.{signals_most, tables_most, depth_most}
use Rattle.meaning.specs.Lists.{inside, count}
use Rattle.meaning.specs.Timing.{Tables}
use Rattle.meaning.specs.Body.{Assigns, Args, Way, looped, shifted, entered, Body, done, vec, set', inner, depth, outside, shifting, supplied}
use Rattle.meaning.specs.Run.{shift_of, State, Played as Play, follow, again, entering}
use Rattle.meaning.specs.Meaning.{first_failing}
use Rattle.meaning.specs.Statements.{Decl, Env, loops, uses}
use Rattle.meaning.proofs.Turns.{Plain, Good}
use Rattle.held.specs.Held.{HeadAt, Holds}
use Rattle.turns.specs.Few.{playing_few, play_few}
use Rattle.words.specs.Cursor.{alive, stream}
use Rattle.words.specs.declared.Cursor.{Cursor}
use Rattle.signals.specs.Names.{AllTidy}
use Rattle.timing.specs.Marks.{table_size}
use Rattle.timing.specs.Held.{Held}
use Rattle.measures.specs.Book.{bodies, first_procedure, start_at}
use Rattle.arguments.specs.Supplied.{Supplied}
use Rattle.sums.specs.Sums.{before, Sum, or_table, Sums}
use Rattle.sums.specs.Parts.{Exact}
use Rattle.tallies.specs.Rows.{row_size, sum_at, is_summed, is_shifted, Marked}
use Rattle.heads.specs.declared.Known.{Known}
use Rattle.heads.specs.Known.{Describes}
use Rattle.heads.specs.Heads.{kind_of}
use Rattle.pins.specs.Shown.{table_of, Shows, Told, Roomy, Feeding, feed_at}
use Rattle.plays.specs.declared.Ground.{Ground as Ours}
use Rattle.plays.specs.declared.Played.{Played}
use Rattle.memos.specs.declared.Use.{Use}
use Rattle.memos.specs.Tracks.{is_marked, assigned_mark, tracks_length, marks_from, marks_at, Granted, Tracked, Tracking}
use Rattle.memos.specs.Memo.{before_at, AtLevel, telling, Row, Finds}

-- ---- what is played

-- a text and the tables that the code has of it
pub record Ground : Type 0 where
  pub text : List ℕ
  pub places : List ℕ
  pub lists : List ℕ
  pub tplaces : List ℕ
  pub book : List ℕ
  pub rows : List ℕ
  pub waves : List ℕ
  pub known : Known
  pub signals : ℕ

abbrev pub grounded : (text places lists tplaces book rows waves : List ℕ) → Known → ℕ → Ground
grounded text places lists tplaces book rows waves known signals = record {
  text = text;
  places = places;
  lists = lists;
  tplaces = tplaces;
  book = book;
  rows = rows;
  waves = waves;
  known = known;
  signals = signals;
}

-- as the code has it
abbrev pub ground_of : Ours → Ground
ground_of g = grounded g.declared.text.now g.declared.places.now g.declared.lists.now g.declared.tplaces.now g.declared.book.now g.declared.rows.now g.waves.now g.declared.known g.signals

-- they hold what is declared in it
pub record Holding (g : Ground) (E : Env) : Type 0 where
  pub describes : Describes g.text g.places g.lists g.tplaces g.book g.rows g.known E
  pub held : Held g.text g.tplaces g.waves g.known.tables E.tables
  pub tidy : AllTidy g.signals E.names

-- ---- sums that are known

-- the row of the body of number i holds its sum, for so many turns of its Shift at least; no `#` stands twice in its Shift
pub record SumOf (g : Ground) (E : Env) (sums : List ℕ) (i least : ℕ) : Type 0 where
  pub sums_are : (b : Body) (us : Toks) → Holds E (toks g.text (start_at g.book i)) b us → (t : ℕ) → least ≤ t → Sums E.tables g.signals t b (sum_at sums i)
  pub once : (b : Body) (us : Toks) → Holds E (toks g.text (start_at g.book i)) b us → (s : ℕ) → count s (shifting b) ≤ 1

-- of each body that is summed up the row holds its sum
pub record Summed (g : Ground) (marks sums : List ℕ) (E : Env) : Type 0 where
  pub each : (i : ℕ) → i < bodies → get_or marks i 0 ≡ is_summed → SumOf g E sums i 0
  pub shifted_each : (i : ℕ) → i < bodies → get_or marks i 0 ≡ is_shifted → SumOf g E sums i 1

-- ---- uses and Loops that are remembered

-- the statement at the cursor c, in which so many second turns may be open
abbrev pub use_at : ℕ → Cursor → Use
use_at k c = record { seconds = k; fault = c.fault; at = c.at; end = c.end }

-- a statement with a body in it, alone, where the Shift of the body around it plays t times
abbrev pub alone : (k t : ℕ) → Way → Body → State → Play
alone k t w b = playing_few k t w (λ j. play_few j (shift_of t w) b)

-- p, which was played from the state s over n signals, has no cycle that fails; it leaves this table, and these pins where they were assigned
pub record Comes (tabs : Tables) (n : ℕ) (m : ℕ → ℕ) (table : ℕ) (pins : ℕ → ℕ) (s : State) (p : Play) : Type 0 where
  pub sound : first_failing tabs p.1 ≡ none
  pub wide : length p.0.pins ≡ n
  pub put : (i : ℕ) → i < n → is_marked (m i) assigned_mark ≡ true → get_or p.0.pins i 0 ≡ pins i
  pub kept : (i : ℕ) → i < n → is_marked (m i) assigned_mark ≡ false → get_or p.0.pins i 0 ≡ get_or s.pins i 0
  pub table_is : p.0.table ≡ table_of table
  pub args_same : p.0.args ≡ s.args

-- so does the statement at the cursor c, whatever body is in it, from every state with this table whose pins are granted, and with fewer second turns too
pub record Outcome (g : Ground) (E : Env) (k : ℕ) (c : Cursor) (table : ℕ) (m : ℕ → ℕ) (table' : ℕ) (pins : ℕ → ℕ) : Type 0 where
  pub each : (j : ℕ) → j ≤ k → (w : Way) (b rest : Body) (us : Toks) → Holds E (stream g.text c) (inner w b rest) us → (t : ℕ)
      → (s : State) → length s.pins ≡ g.signals → s.table ≡ table_of table → ((i : ℕ) → i < g.signals → Granted E.tables (m i) i (get_or s.pins i 0))
      → Comes E.tables g.signals m table' pins s (alone j t w b s)

-- what a row tells is so
pub record Remembers (g : Ground) (memo : List ℕ) (E : Env) : Type 0 where
  pub each : (j k : ℕ) (c b : Cursor) (table : ℕ) (m : ℕ → ℕ) (table' : ℕ) (pins : ℕ → ℕ)
      → Row memo g.signals j (telling (use_at k c) b table m table' pins) → Outcome g E k c table m table' pins

-- the body b, which is held from ts on up to us, begins with a statement that has a body in it; from vs on the rest is held
pub record Past (E : Env) (ts vs : Toks) (b : Body) (us : Toks) : Type 0 where
  pub way : Way
  pub body : Body
  pub rest : Body
  pub is : b ≡ inner way body rest
  pub behind : Holds E vs rest us
  pub less : left vs < left ts

-- at the cursor c a statement has a body in it, and b is behind it
pub record Passes (g : Ground) (E : Env) (c b : Cursor) : Type 0 where
  pub each : (body : Body) (us : Toks) → Holds E (stream g.text c) body us → Past E (stream g.text c) (stream g.text b) body us

-- the same, whatever is declared
pub record Behind (g : Ground) (c b : Cursor) : Type 0 where
  pub each : (E : Env) → Describes g.text g.places g.lists g.tplaces g.book g.rows g.known E → Passes g E c b

-- at the cursor c a Loop of n turns begins, and b is behind its head, whatever is declared
pub record LoopAt (g : Ground) (c b : Cursor) (n : ℕ) : Type 0 where
  pub each : (E : Env) → Describes g.text g.places g.lists g.tplaces g.book g.rows g.known E
      → HeadAt E (stream g.text c) (loops n) (stream g.text b)

-- each row has the cursor behind its statement
pub record Heads (g : Ground) (memo : List ℕ) (E : Env) : Type 0 where
  pub each : (j k : ℕ) (c b : Cursor) (table : ℕ) (m : ℕ → ℕ) (table' : ℕ) (pins : ℕ → ℕ)
      → Row memo g.signals j (telling (use_at k c) b table m table' pins) → Passes g E c b

-- the row at this place is for the use u, and holds for these pins
pub record Recalls (waves memo : List ℕ) (n : ℕ) (u : Use) (table : ℕ) (values : List ℕ) (at : ℕ) : Type 0 where
  pub finds : Finds memo u table at
  pub granted : (tabs : Tables) → Marked waves tabs → (i : ℕ) → i < n → Granted tabs (marks_from memo (at + before_at + 1) i) i (get_or values i 0)

-- how deep a body stands in the nest of Loops and uses, in which bodies may stand `more` deep: so deep is tracked what it shows and assigns
abbrev pub nest_of : ℕ → ℕ
nest_of more = depth_most - more

-- what is tracked less deep is as it was
pub record Below (nest : ℕ) (memo memo' : List ℕ) : Type 0 where
  pub each : (i : ℕ) → i < nest * signals_most → get_or memo' i 0 ≡ get_or memo i 0

-- what is known of the bodies that a text uses, and of statements that were played
pub record Knows (g : Ground) (marks sums memo : List ℕ) (E : Env) : Type 0 where
  pub summed : Summed g marks sums E
  pub heads : Heads g memo E
  pub remembers : Remembers g memo E

-- ---- bodies that can be played

-- every Shift in it, at any depth, holds one V
abbrev pub OneVector : Way → Body → Type 0
OneVector (looped n) b = Unit {0}
OneVector shifted b = (p : ℕ) × (a : Assigns) × (b ≡ vec p a done)
OneVector (entered k t a) b = Unit {0}

unfoldable pub Single : Body → Type 0
Single done = Unit {0}
Single (vec p a r) = Single r
Single (set' x r) = Single r
Single (inner w b r) = OneVector w b × Single b × Single r

-- a body that can be played at a level, in which bodies may stand `more` deep, with these arguments: its own `#` are fed, its Loops have none, its Shifts
-- hold one V
pub record Fits (more level : ℕ) (args : Args) (b : Body) : Type 0 where
  pub deep : depth b ≤ more
  pub levels : level + more ≤ depth_most
  pub fed : inside (outside b) (supplied args) ≡ true
  pub shift_fed : inside (shifting b) (supplied args) ≡ true
  pub single : Single b
  pub good : Good b

-- what the player writes: the pins in force and those of callers, what is left of arguments, and room for the arguments of a head
pub record Arrays : Type 0 where
  pub values : List ℕ
  pub feeds : List ℕ
  pub args : List ℕ

abbrev pub arrays : List ℕ → List ℕ → List ℕ → Arrays
arrays values feeds args = record { values = values; feeds = feeds; args = args }

-- they are of the right length, and so are the waveforms' marks
pub record Sized (g : Ground) (level : ℕ) (x : Arrays) : Type 0 where
  pub roomy : Roomy g.signals x.values x.feeds level
  pub args_long : length x.args ≡ signals_most * 2
  pub waves_long : length g.waves ≡ tables_most * table_size

-- the state s, at a level
abbrev pub Showing : Ground → (level table : ℕ) → Arrays → State → Type 0
Showing g level table x s = Shows g.text g.signals x.values table x.feeds level s

-- from ts the tokens hold the body b, behind which us stand, and the state is s
pub record Standing (g : Ground) (ts : Toks) (more level table : ℕ) (x : Arrays) (E : Env) (b : Body) (us : Toks) (s : State) : Type 0 where
  pub holding : Holding g E
  pub holds : Holds E ts b us
  pub fits : Fits more level s.args b
  pub shows : Showing g level table x s

-- some body is held there
pub record Stood (g : Ground) (ts : Toks) (more level table : ℕ) (x : Arrays) : Type 0 where
  pub env : Env
  pub body : Body
  pub rest : Toks
  pub state : State
  pub standing : Standing g ts more level table x env body rest state
  pub sized : Sized g level x

-- ---- what is promised

-- what a body at a level keeps: the rows of its own level and of those below it, in which callers' pins stand, and the arguments of its callers
pub record Kept (level : ℕ) (x y : Arrays) : Type 0 where
  pub rows : (i : ℕ) → signals_most ≤ i → i < (level + 2) * signals_most → get_or y.values i 0 ≡ get_or x.values i 0
  pub arguments : (l s : ℕ) → s < signals_most → l < level → feed_at y.feeds l s ≡ feed_at x.feeds l s
  pub values_long : length y.values ≡ length x.values
  pub feeds_long : length y.feeds ≡ length x.feeds
  pub args_long : length y.args ≡ length x.args

-- what is told of a play p: that a cycle of it fails, first at this place; or that none does, and the state at its end
abbrev pub Telling : Ground → Tables → (level : ℕ) → Arrays → Played → Play → Type 0
Telling g tabs level y r p = Told tabs g.text g.signals y.values r.table y.feeds level r.failed r.place p

-- THE PROMISE: p was played, to its end, behind which us stand, or to the first cycle that fails
pub record Plays (g : Ground) (tabs : Tables) (level : ℕ) (y : Arrays) (us : Toks) (r : Played) (p : Play) : Type 0 where
  pub told : Telling g tabs level y r p
  pub behind : r.failed ≡ false → (alive r.cursor ≡ true) × (stream g.text r.cursor ≡ us)

-- whatever the sums say, some of the arguments a is left
pub record Fed (g : Ground) (level : ℕ) (y : Arrays) (a : Args) : Type 0 where
  pub rest : Args
  pub same : supplied rest ≡ supplied a
  pub feeding : Feeding g.text y.feeds level rest

-- and a body was gone through to its end, behind which us stand
pub record Ended (g : Ground) (level : ℕ) (y : Arrays) (us : Toks) (a : Args) (c : Cursor) : Type 0 where
  pub on : alive c ≡ true
  pub there : stream g.text c ≡ us
  pub fed : Fed g level y a

-- whatever body is held from ts on, f of it was played, where the sums that are known are those of its bodies
pub record Promised (g : Ground) (marks sums : List ℕ) (ts : Toks) (more level table : ℕ) (x y : Arrays) (f : Body → State → Play) (r : Played) : Type 0 where
  pub kept : Kept level x y
  pub ended : (E : Env) (b : Body) (us : Toks) (s : State) → Standing g ts more level table x E b us s → r.failed ≡ false → Ended g level y us s.args r.cursor
  pub plays : (E : Env) (b : Body) (us : Toks) (s : State) → Standing g ts more level table x E b us s → Summed g marks sums E → Plays g E.tables level y us r (f b s)

-- the same, of each body that is fine, where what is remembered is so; and it is so behind it
pub record PromisedWhere (fine : Body → Type 0) (g : Ground) (marks sums memo memo' : List ℕ) (ts : Toks) (more level nest table : ℕ) (x y : Arrays) (f : Body → State → Play) (r : Played) : Type 0 where
  pub kept : Kept level x y
  pub ended : (E : Env) (b : Body) (us : Toks) (s : State) → Standing g ts more level table x E b us s → Heads g memo E → r.failed ≡ false → Ended g level y us s.args r.cursor
  pub plays : (E : Env) (b : Body) (us : Toks) (s : State) → Standing g ts more level table x E b us s → Knows g marks sums memo E → fine b → Plays g E.tables level y us r (f b s)
  pub memo_long : length memo' ≡ length memo
  pub below : Below nest memo memo'
  pub heads : (E : Env) (b : Body) (us : Toks) (s : State) → Standing g ts more level table x E b us s → Heads g memo E → Heads g memo' E
  pub learnt : (E : Env) (b : Body) (us : Toks) (s : State) → Standing g ts more level table x E b us s → Knows g marks sums memo E → fine b → Knows g marks sums memo' E
  pub tracks : (E : Env) (b : Body) (us : Toks) (s : State) → Standing g ts more level table x E b us s → Knows g marks sums memo E → fine b → r.failed ≡ false
      → Tracking E.tables g.signals nest memo memo' s (f b)

-- ---- a second turn that is left out

-- where anything is tracked: a Loop's body has no `#`, and nothing was tracked so deep before its first turn
abbrev pub Looping : (n nest : ℕ) → List ℕ → Body → Type 0
Looping n nest memo b = tracks_length ≤ length memo → Plain b × ((j : ℕ) → j < n → marks_at memo nest j ≡ 0)

-- what is tracked so deep was played from this table on, and would play as well from the table and the pins behind it
pub record Begins (waves memo : List ℕ) (n nest table behind : ℕ) (values : List ℕ) : Type 0 where
  pub table_same : behind ≡ table
  pub deep : 0 < nest
  pub room : tracks_length ≤ length memo
  pub granted : (tabs : Tables) → Marked waves tabs → (i : ℕ) → i < n → Granted tabs (marks_at memo nest i) i (get_or values i 0)

-- ---- one statement

-- the same state at the end, and the same first cycle that fails
pub record Alike (tabs : Tables) (p q : Play) : Type 0 where
  pub left_same : p.0 ≡ q.0
  pub fails_same : first_failing tabs p.1 ≡ first_failing tabs q.1

-- at the cursor a rest of the body b is held, and playing b from s is playing that rest from the state there; what was played up to it is tracked
pub record Onward (g : Ground) (memo memo' : List ℕ) (more level table : ℕ) (y : Arrays) (E : Env) (us : Toks) (k t : ℕ) (b : Body) (s : State) (c : Cursor) : Type 0 where
  pub rest : Body
  pub state : State
  pub on : alive c ≡ true
  pub standing : Standing g (stream g.text c) more level table y E rest us state
  pub same : Alike E.tables (play_few k t b s) (play_few k t rest state)
  pub step : State → Play
  pub is : (z : State) → play_few k t b z ≡ follow (step z) (play_few k t rest)
  pub here : state ≡ (step s).0
  pub tracks : Tracking E.tables g.signals (nest_of more) memo memo' s step

-- one statement of the body b was played: a cycle of it fails; or it was the `}`; or a rest of b is left, of fewer tokens
pub record Steps (g : Ground) (memo memo' : List ℕ) (ts : Toks) (more level : ℕ) (y : Arrays) (E : Env) (us : Toks) (k t : ℕ) (b : Body) (s : State) (r : Played) : Type 0 where
  pub fails : r.failed ≡ true → first_failing E.tables (play_few k t b s).1 ≡ some r.place
  pub ended : r.failed ≡ false → r.ends ≡ true → Plays g E.tables level y us r (play_few k t b s)
  pub last : r.failed ≡ false → r.ends ≡ true → Tracking E.tables g.signals (nest_of more) memo memo' s (play_few k t b)
  pub goes : r.failed ≡ false → r.ends ≡ false
      → Onward g memo memo' more level r.table y E us k t b s r.cursor × (left (stream g.text r.cursor) < left ts)

-- whatever the sums say, at the cursor a rest of a body is held, and some of the arguments a is left for it
pub record Resumed (g : Ground) (more level : ℕ) (y : Arrays) (E : Env) (us : Toks) (a : Args) (c : Cursor) : Type 0 where
  pub rest : Body
  pub on : alive c ≡ true
  pub holds : Holds E (stream g.text c) rest us
  pub fits : Fits more level a rest
  pub fed : Fed g level y a

pub record Moves (g : Ground) (ts : Toks) (more level : ℕ) (y : Arrays) (E : Env) (us : Toks) (a : Args) (r : Played) : Type 0 where
  pub ended : r.failed ≡ false → r.ends ≡ true → Ended g level y us a r.cursor
  pub goes : r.failed ≡ false → r.ends ≡ false → Resumed g more level y E us a r.cursor × (left (stream g.text r.cursor) < left ts)

pub record Stepped (g : Ground) (marks sums memo memo' : List ℕ) (ts : Toks) (more level table : ℕ) (x y : Arrays) (k t : ℕ) (r : Played) : Type 0 where
  pub kept : Kept level x y
  pub moves : (E : Env) (b : Body) (us : Toks) (s : State) → Standing g ts more level table x E b us s → Heads g memo E → Moves g ts more level y E us s.args r
  pub steps : (E : Env) (b : Body) (us : Toks) (s : State) → Standing g ts more level table x E b us s → Knows g marks sums memo E
      → Steps g memo memo' ts more level y E us k t b s r
  pub memo_long : length memo' ≡ length memo
  pub below : Below (nest_of more) memo memo'
  pub heads : (E : Env) (b : Body) (us : Toks) (s : State) → Standing g ts more level table x E b us s → Heads g memo E → Heads g memo' E
  pub learnt : (E : Env) (b : Body) (us : Toks) (s : State) → Standing g ts more level table x E b us s → Knows g marks sums memo E → Knows g marks sums memo' E

-- whatever V a Shift holds from ts on, it was played t times
pub record Shifted (g : Ground) (ts : Toks) (more level table : ℕ) (x y : Arrays) (k t : ℕ) (r : Played) : Type 0 where
  pub kept : Kept level x y
  pub goes_on : r.ends ≡ false
  pub plays : (E : Env) (p : ℕ) (a : Assigns) (us : Toks) (s : State) → Standing g ts more level table x E (vec p a done) us s
      → Plays g E.tables level y us r (again t (play_few k t (vec p a done)) s)

-- the same, and what was played is tracked
pub record ShiftedOn (g : Ground) (memo memo' : List ℕ) (ts : Toks) (more level table : ℕ) (x y : Arrays) (k t : ℕ) (r : Played) : Type 0 where
  pub shifted_is : Shifted g ts more level table x y k t r
  pub at_level : AtLevel memo memo' (nest_of more)
  pub tracks : (E : Env) (p : ℕ) (a : Assigns) (us : Toks) (s : State) → Standing g ts more level table x E (vec p a done) us s → r.failed ≡ false
      → Tracking E.tables g.signals (nest_of more) memo memo' s (again t (play_few k t (vec p a done)))

-- ---- a body that a statement uses

-- the declared body b of number i, used with the arguments a where the caller's state is s
pub record Using (g : Ground) (i more level table : ℕ) (x : Arrays) (E : Env) (b : Body) (us : Toks) (a : Args) (s : State) : Type 0 where
  pub holding : Holding g E
  pub declared : i < bodies
  pub holds : Holds E (toks g.text (start_at g.book i)) b us
  pub some_more : 0 < more
  pub fits : Fits (more - 1) (level + 1) a b
  pub shows : Showing g level table x s
  pub fed : Feeding g.text x.feeds (level + 1) a

pub record Used (g : Ground) (i more level table : ℕ) (x : Arrays) : Type 0 where
  pub env : Env
  pub body : Body
  pub rest : Toks
  pub arguments : Args
  pub state : State
  pub use' : Using g i more level table x env body rest arguments state
  pub sized : Sized g level x

-- it was played with its Shift t times, to its end or to the first cycle that fails, and the caller's arguments are there again, and where it is a
-- procedure the caller's pins and table
pub record Entered (g : Ground) (marks sums : List ℕ) (i more level table : ℕ) (x y : Arrays) (k t : ℕ) (r : Played) : Type 0 where
  pub kept : Kept level x y
  pub own : (s : ℕ) → s < signals_most → feed_at y.feeds level s ≡ feed_at x.feeds level s
  pub told : (E : Env) (b : Body) (us : Toks) (a : Args) (s : State) → Using g i more level table x E b us a s → Summed g marks sums E
      → Telling g E.tables level y r (entering (kind_of i) a (play_few k t b) s)

-- the same, where what is remembered is so; and it is so behind it
pub record Performed (g : Ground) (marks sums memo memo' : List ℕ) (i more level table : ℕ) (x y : Arrays) (k t : ℕ) (r : Played) : Type 0 where
  pub kept : Kept level x y
  pub own : (s : ℕ) → s < signals_most → feed_at y.feeds level s ≡ feed_at x.feeds level s
  pub told : (E : Env) (b : Body) (us : Toks) (a : Args) (s : State) → Using g i more level table x E b us a s → Knows g marks sums memo E
      → Telling g E.tables level y r (entering (kind_of i) a (play_few k t b) s)
  pub memo_long : length memo' ≡ length memo
  pub below : Below (nest_of (more - 1)) memo memo'
  pub heads : (E : Env) (b : Body) (us : Toks) (a : Args) (s : State) → Using g i more level table x E b us a s → Heads g memo E → Heads g memo' E
  pub learnt : (E : Env) (b : Body) (us : Toks) (a : Args) (s : State) → Using g i more level table x E b us a s → Knows g marks sums memo E → Knows g marks sums memo' E
  -- where nothing was tracked so deep, it is
  pub tracks : (E : Env) (b : Body) (us : Toks) (a : Args) (s : State) → Using g i more level table x E b us a s → Knows g marks sums memo E → r.failed ≡ false
      → tracks_length ≤ length memo → ((j : ℕ) → j < g.signals → marks_at memo (nest_of (more - 1)) j ≡ 0)
      → Tracked E.tables g.signals (marks_at memo' (nest_of (more - 1))) s (entering (kind_of i) a (play_few k t b))

-- the statement at the cursor c uses the declared body b of number i with the arguments a, for t turns of its Shift
pub record Invoking (g : Ground) (c : Cursor) (i t more level table : ℕ) (given : List ℕ) (x : Arrays) (E : Env) (b : Body) (us : Toks) (a : Args) (s : State) : Type 0 where
  pub holding : Holding g E
  pub head_is : (d : Decl) × (vs : Toks) × HeadAt E (stream g.text c) (uses (kind_of i) d t a) vs × (d.body ≡ b)
  pub declared : i < bodies
  pub holds : Holds E (toks g.text (start_at g.book i)) b us
  pub some_more : 0 < more
  pub fits : Fits (more - 1) (level + 1) a b
  pub shows : Showing g level table x s
  pub supplied : Supplied g.text a given x.args
  pub exact : ((j : ℕ) → count j (shifting b) ≤ 1) → Exact t b a

pub record SomeInvoked (g : Ground) (c : Cursor) (i t more level table : ℕ) (given : List ℕ) (x : Arrays) : Type 0 where
  pub env : Env
  pub body : Body
  pub rest : Toks
  pub arguments : Args
  pub state : State
  pub invoking : Invoking g c i t more level table given x env body rest arguments state
  pub sized : Sized g level x
  pub given_long : length given ≡ signals_most

-- it was played, or it was known what it plays
pub record Served (g : Ground) (marks sums memo memo' : List ℕ) (c : Cursor) (i t more level table : ℕ) (given : List ℕ) (x y : Arrays) (k : ℕ) (r : Played) : Type 0 where
  pub kept : Kept level x y
  pub own : (s : ℕ) → s < signals_most → feed_at y.feeds level s ≡ feed_at x.feeds level s
  pub told : (E : Env) (b : Body) (us : Toks) (a : Args) (s : State) → Invoking g c i t more level table given x E b us a s → Knows g marks sums memo E
      → Telling g E.tables level y r (entering (kind_of i) a (play_few k t b) s)
  pub memo_long : length memo' ≡ length memo
  pub below : Below (nest_of more) memo memo'
  pub heads : (E : Env) (b : Body) (us : Toks) (a : Args) (s : State) → Invoking g c i t more level table given x E b us a s → Heads g memo E → Heads g memo' E
  pub learnt : (E : Env) (b : Body) (us : Toks) (a : Args) (s : State) → Invoking g c i t more level table given x E b us a s → Knows g marks sums memo E
      → Knows g marks sums memo' E
  pub tracks : (E : Env) (b : Body) (us : Toks) (a : Args) (s : State) → Invoking g c i t more level table given x E b us a s → Knows g marks sums memo E → r.failed ≡ false
      → Tracking E.tables g.signals (nest_of more) memo memo' s (entering (kind_of i) a (play_few k t b))

-- ---- a used body that is passed

-- the declared body b of number i, used with the arguments a for t turns of its Shift
pub record Calling (g : Ground) (marks sums : List ℕ) (i t : ℕ) (given args : List ℕ) (E : Env) (b : Body) (us : Toks) (a : Args) : Type 0 where
  pub held : Held g.text g.tplaces g.waves g.known.tables E.tables
  pub holds : Holds E (toks g.text (start_at g.book i)) b us
  pub good : Good b
  pub supplied : Supplied g.text a given args
  pub exact : ((s : ℕ) → count s (shifting b) ≤ 1) → Exact t b a
  pub summed : Summed g marks sums E

-- the first n values are those of `left`
pub record Settles (n : ℕ) (left values values' : List ℕ) : Type 0 where
  pub long : length values' ≡ length values
  pub here : (s : ℕ) → s < n → get_or values' s 0 ≡ get_or left s 0
  pub else : (i : ℕ) → n ≤ i → get_or values' i 0 ≡ get_or values i 0

-- the marks of signal j behind a body of sum S: where S shows what stood there before, and whether it assigns
pub record SumMarks (S : Sum) (table : Option ℕ) (j m : ℕ) : Type 0 where
  pub shown : (t : Option ℕ) (k : ℕ) → S.under j t ≡ true → or_table t table ≡ some k → (k < tables_most) × (is_marked m k ≡ true)
  pub put : is_marked m assigned_mark ≡ true → S.pin j ≡ before → ⊥
  pub kept : is_marked m assigned_mark ≡ false → S.pin j ≡ before

-- behind the body of number i; a procedure does nothing to its caller's signals
pub record PassedMarks (sums : List ℕ) (i table j m : ℕ) : Type 0 where
  pub in_place : i < first_procedure → SumMarks (sum_at sums i) (table_of table) j m
  pub comes_back : first_procedure ≤ i → m ≡ 0

-- it was played without a failing cycle, and this table is in force behind it
pub record Passed (g : Ground) (marks sums : List ℕ) (i t table : ℕ) (given args values values' : List ℕ) (table' : ℕ) : Type 0 where
  pub long : length values' ≡ length values
  pub rows : (j : ℕ) → signals_most ≤ j → get_or values' j 0 ≡ get_or values j 0
  pub room : i * row_size + row_size ≤ length sums
  pub told : (E : Env) (b : Body) (us : Toks) (a : Args) (s : State) (feeds : List ℕ) (level k p : ℕ)
      → Calling g marks sums i t given args E b us a → Shows g.text g.signals values table feeds level s
      → Told E.tables g.text g.signals values' table' feeds level false p (entering (kind_of i) a (play_few k t b) s)
  pub tracks : (E : Env) (b : Body) (us : Toks) (a : Args) (s : State) (feeds : List ℕ) (level k : ℕ) (m : ℕ → ℕ)
      → Calling g marks sums i t given args E b us a → Shows g.text g.signals values table feeds level s → ((j : ℕ) → j < g.signals → PassedMarks sums i table j (m j))
      → Tracked E.tables g.signals m s (entering (kind_of i) a (play_few k t b))

-- so it was, or nothing was done
abbrev pub Passing : (g : Ground) (marks sums : List ℕ) (i t table : ℕ) (given args values values' : List ℕ) → Maybe ℕ → Type 0
Passing g marks sums i t table given args values values' None = values' ≡ values
Passing g marks sums i t table given args values values' (Some k) = Passed g marks sums i t table given args values values' k
