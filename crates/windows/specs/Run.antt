-- What is promised of a window over the run: the listed patterns in order, each from its own first byte.
use Rattle.std.specs.Prelude.{ℕ, ◌*◌, ◌-◌, ◌≤◌, ◌≡◌, List, [], ◌++◌, length, drop}
use Rattle.meaning.specs.Body.{listed, Way, entered, Body}
use Rattle.meaning.specs.Run.{State, size, cycles, visits, play, cycles_of}
use Rattle.meaning.specs.Meaning.{given, Meaning, meaning}
use Rattle.meaning.specs.Services.{rows, row_width}
use Rattle.meaning.specs.Statements.{Decl, Decls, Env}
use Rattle.meaning.specs.Document.{Read}
use Rattle.walks.specs.Seen.{seen}
use Rattle.heads.specs.declared.Known.{Known}
use Rattle.texts.specs.declared.Parts.{Parts}
use Rattle.plays.specs.Plays.{Ground, Arrays, Sized}
use Rattle.plays.specs.Run.{ListedAt, Runs}
use Rattle.rows.specs.declared.Walk.{Walk}
use Rattle.rows.specs.Went.{Going, Went}
use Rattle.steps.specs.Walks.{Ready, only}

-- ---- one listed pattern

-- as a statement of the run
abbrev pub way : Way
way = entered listed 0 []

abbrev pub entry : Body → Body
entry = only way

pub record SomeListed (g : Ground) (list : List ℕ) (patterns k : ℕ) (x : Arrays) (w : Walk) (buffer : List ℕ) : Type 0 where
  pub env : Env
  pub decls : Decls
  pub decl : Decl
  pub state : State
  pub long : length state.pins ≡ g.signals
  pub listed_at : ListedAt g list patterns k env decls decl
  pub ready : Ready env.tables 0 (entry decl.body) state w
  pub sized : Sized g 0 x
  pub going : Going g.signals w buffer

-- it was gone through, from any state over so many signals
pub record WentListed (g : Ground) (list : List ℕ) (patterns k : ℕ) (y : Arrays) (w w' : Walk) (before after : List ℕ) : Type 0 where
  pub sized : Sized g 0 y
  pub went : (E : Env) (ps : Decls) (d : Decl) → ListedAt g list patterns k E ps d → (s : State) → length s.pins ≡ g.signals
      → Ready E.tables 0 (entry d.body) s w → Went g.signals (play 0 (entry d.body) s).1 (visits 0 (entry d.body) w.pass) w w' before after

-- ---- the whole run

-- the tables hold an accepted text, whose run is of this size; so many rows are due from a cycle on, and there is room for them
pub record Accepts (text places lists tplaces waves book rows list : List ℕ) (known : Known) (signals listed patterns sized first due : ℕ) (buffer : List ℕ)
    (p : Parts) (d : Read) (m : Meaning) : Type 0 where
  pub runs : Runs text places lists tplaces waves book rows list known signals listed patterns p d m.run
  pub meant : meaning text ≡ given m
  pub size_is : size m.run ≡ sized
  pub due_there : due ≤ cycles 0 m.run - first
  pub room : due * row_width signals ≤ length buffer

pub record SomeText (text places lists tplaces waves book rows list : List ℕ) (known : Known) (signals listed patterns sized first due : ℕ) (buffer : List ℕ) : Type 0 where
  pub parts : Parts
  pub read : Read
  pub it : Meaning
  pub accepts : Accepts text places lists tplaces waves book rows list known signals listed patterns sized first due buffer parts read it

-- THE PROMISE: the visits, and the rows that are due at the front of the buffer, whose rest stays
pub record Windows (signals first due mark : ℕ) (before : List ℕ) (m : Meaning) (r : ℕ) (after : List ℕ) : Type 0 where
  pub visits_are : r ≡ visits 0 m.run first
  pub rows_are : after ≡ rows mark (seen first due (cycles_of signals m.run)) ++ drop (due * row_width signals) before

-- the same of a text and its tables as one
abbrev pub AcceptsOn : Ground → List ℕ → (listed patterns sized first due : ℕ) → List ℕ → Parts → Read → Meaning → Type 0
AcceptsOn g list = Accepts g.text g.places g.lists g.tplaces g.waves g.book g.rows list g.known g.signals

abbrev pub SomeTextOn : Ground → List ℕ → (listed patterns sized first due : ℕ) → List ℕ → Type 0
SomeTextOn g list = SomeText g.text g.places g.lists g.tplaces g.waves g.book g.rows list g.known g.signals
