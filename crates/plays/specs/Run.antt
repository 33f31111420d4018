-- What is promised of playing the run: the listed patterns in order, each from its own first byte.
use Rattle.std.specs.Prelude.{ℕ, ◌≤◌, ◌≡◌, true, false, List, [], length, Option as Maybe}
use Rattle.std.proofs.Math.Option.{none, some}
use Rattle.meaning.specs.Bounds.{patterns_most, depth_most}
use Rattle.meaning.specs.Names.{find}
use Rattle.meaning.specs.Body.{listed, Body}
use Rattle.meaning.specs.Run.{State, entering, cycles_of}
use Rattle.meaning.specs.Meaning.{given, run_of, first_failing}
use Rattle.meaning.specs.Statements.{Decl, Decls, Env}
use Rattle.meaning.specs.Document.{Read}
use Rattle.held.specs.Held.{Stands}
use Rattle.turns.specs.Few.{play_few, open_most}
use Rattle.words.specs.Table.{name_of}
use Rattle.words.specs.Values.{value_of}
use Rattle.measures.specs.Book.{first_pattern, Entry, Listed}
use Rattle.heads.specs.declared.Known.{Known}
use Rattle.texts.specs.declared.Parts.{Parts}
use Rattle.texts.specs.Tables.{Tabled}
use Rattle.plays.specs.declared.Played.{Played}
use Rattle.plays.specs.Plays.{Ground, Holding, Heads, Knows, Fits, Arrays, Sized}

-- ---- one listed pattern

-- the listed name of number k is that of the pattern d, which is held where it stands
pub record ListedAt (g : Ground) (list : List ℕ) (patterns k : ℕ) (E : Env) (ps : Decls) (d : Decl) : Type 0 where
  pub holding : Holding g E
  pub book : Listed (Entry g.text g.book) first_pattern ps
  pub counted : length ps ≡ patterns
  pub few : patterns ≤ patterns_most
  pub found : find ps (name_of g.text list k).word ≡ some d
  pub stands : Stands E d
  pub fits : Fits depth_most 0 [] d.body

pub record SomeListed (g : Ground) (list : List ℕ) (patterns k : ℕ) (x : Arrays) : Type 0 where
  pub env : Env
  pub decls : Decls
  pub decl : Decl
  pub listed_at : ListedAt g list patterns k env decls decl
  pub sized : Sized g 0 x

-- it was played, from any state over so many signals, to its end or to the first cycle that fails
pub record PlaysListed (g : Ground) (marks sums memo memo' : List ℕ) (list : List ℕ) (patterns k : ℕ) (y : Arrays) (r : Played) : Type 0 where
  pub sized : Sized g 0 y
  pub fails : (E : Env) (ps : Decls) (d : Decl) → ListedAt g list patterns k E ps d → Knows g marks sums memo E → (s : State) → length s.pins ≡ g.signals → r.failed ≡ true
      → first_failing E.tables (entering listed [] (play_few open_most 0 d.body) s).1 ≡ some r.place
  pub sound : (E : Env) (ps : Decls) (d : Decl) → ListedAt g list patterns k E ps d → Knows g marks sums memo E → (s : State) → length s.pins ≡ g.signals → r.failed ≡ false
      → first_failing E.tables (entering listed [] (play_few open_most 0 d.body) s).1 ≡ none
  pub memo_long : length memo' ≡ length memo
  pub heads : (E : Env) (ps : Decls) (d : Decl) → ListedAt g list patterns k E ps d → Heads g memo E → Heads g memo' E
  pub learnt : (E : Env) (ps : Decls) (d : Decl) → ListedAt g list patterns k E ps d → Knows g marks sums memo E → Knows g marks sums memo' E

-- ---- the whole run

-- the tables hold the text d, whose run is `run`
pub record Runs (text places lists tplaces waves book rows list : List ℕ) (known : Known) (signals listed patterns : ℕ) (p : Parts) (d : Read) (run : Body) : Type 0 where
  pub tabled : Tabled text places lists tplaces waves book rows list p d
  pub known_is : p.known ≡ known
  pub signals_is : p.signals ≡ signals
  pub listed_is : p.listed ≡ listed
  pub patterns_is : p.patterns ≡ patterns
  pub run_is : run_of d.patterns d.listed ≡ given run

pub record SomeRun (text places lists tplaces waves book rows list : List ℕ) (known : Known) (signals listed patterns : ℕ) : Type 0 where
  pub parts : Parts
  pub read : Read
  pub body : Body
  pub runs : Runs text places lists tplaces waves book rows list known signals listed patterns parts read body

-- THE PROMISE: refusal 17, given exactly when a cycle of the run fails, with the place of the first one's V
abbrev pub Decides : Read → Body → Maybe ℕ → Type 0
Decides d run r = first_failing d.tables (cycles_of (length d.signals) run) ≡ value_of r

-- the same of a text and its tables as one
abbrev pub RunsOn : Ground → List ℕ → (listed patterns : ℕ) → Parts → Read → Body → Type 0
RunsOn g list = Runs g.text g.places g.lists g.tplaces g.waves g.book g.rows list g.known g.signals

abbrev pub SomeRunOn : Ground → List ℕ → (listed patterns : ℕ) → Type 0
SomeRunOn g list = SomeRun g.text g.places g.lists g.tplaces g.waves g.book g.rows list g.known g.signals
