-- What is promised of the run: its listed patterns in order, each from its own first byte.
use Rattle.std.specs.Prelude.{ℕ, ◌≡◌, true, false, List, [], length, Option as Maybe}
use Rattle.std.proofs.Math.Option.{none, some}
use Rattle.meaning.specs.Body.{listed, Body}
use Rattle.meaning.specs.Run.{State, entering, play}
use Rattle.meaning.specs.Statements.{Decl, Decls, Env}
use Rattle.meaning.specs.Document.{Read}
use Rattle.meaning.specs.Edges.{first_failing_pair, first_in_run}
use Rattle.words.specs.Values.{value_of}
use Rattle.plays.specs.declared.Played.{Played}
use Rattle.plays.specs.Plays.{Ground, Arrays, Sized}
use Rattle.plays.specs.Run.{ListedAt}
use Rattle.crossings.specs.declared.Seen.{Seen}
use Rattle.crossings.specs.Rows.{Ample, Clock, Timed, Fitted}

-- ---- one listed pattern

pub record SomeListed (g : Ground) (k : Clock) (list : List ℕ) (patterns i : ℕ) (x : Arrays) (v : Seen) : Type 0 where
  pub env : Env
  pub decls : Decls
  pub decl : Decl
  pub listed_at : ListedAt g list patterns i env decls decl
  pub timed : Timed env.tables k
  pub sized : Sized g 0 x
  pub fitted : Fitted k
  pub ample : Ample v

-- it was played, from any state over so many signals, to its end or to the first pair that is not in order
pub record PlaysListed (g : Ground) (k : Clock) (list : List ℕ) (patterns i : ℕ) (y : Arrays) (w : Seen) (r : Played) : Type 0 where
  pub sized : Sized g 0 y
  pub ample : Ample w
  pub fails : (E : Env) (ps : Decls) (d : Decl) → ListedAt g list patterns i E ps d → Timed E.tables k → (s : State) → length s.pins ≡ g.signals → r.failed ≡ true
      → first_failing_pair E.tables (entering listed [] (play 0 d.body) s).1 ≡ some r.place
  pub sound : (E : Env) (ps : Decls) (d : Decl) → ListedAt g list patterns i E ps d → Timed E.tables k → (s : State) → length s.pins ≡ g.signals → r.failed ≡ false
      → first_failing_pair E.tables (entering listed [] (play 0 d.body) s).1 ≡ none

-- ---- the whole run

-- THE PROMISE: refusal 25, given exactly when a pair of the run is not in order, with the place of the first one's later V
abbrev pub Decides : Read → Body → Maybe ℕ → Type 0
Decides d run r = first_in_run d.tables (length d.signals) run ≡ value_of r
