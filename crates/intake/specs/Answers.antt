-- The code's values as the definitions': what a change of the code stands for, and what a look through a chunk answers.
use Rattle.std.specs.Prelude.{ℕ, ◌+◌, ◌≡◌, Bool, true, false, not, ◌&&◌, List, [], ◌∷◌, ◌++◌, length, eqb, Result, Ok, Err}
use Rattle.intake.specs.declared.Intake.{Intake}
use Rattle.intake.specs.declared.Change.{Change}
use Rattle.tokens.specs.declared.Refusal.{Refusal}
use Rattle.intake.specs.Intake.{Step, stepped, Taken, on, refused, written}

-- a byte that is stored, or is not
unfoldable pub only_if : Bool → ℕ → List ℕ
only_if due b = elim due [ true ↦ b ∷ [] | false ↦ [] ]

-- what a change sends to the store: the run's mark, the `/` and the byte
unfoldable pub adds_of : (run b : ℕ) → Change → List ℕ
adds_of run b c = only_if (c.mark && not (eqb run 0)) run ++ (only_if c.slash 47 ++ only_if c.kept b)

-- the step that a change stands for
unfoldable pub step_by : Intake → ℕ → Change → Step
step_by x b c = stepped x (adds_of x.run b c) c.run c.mode c.opening

-- behind a byte that changes this, with so many bytes stored
abbrev pub moved_by : Intake → Change → ℕ → Intake
moved_by x c stored = record { taken = x.taken + 1; stored = stored; run = c.run; mode = c.mode; opening = c.opening }

-- nothing is stored
abbrev pub holds_of : (run mode opening : ℕ) → Change
holds_of run mode opening = record { mark = false; slash = false; kept = false; run = run; mode = mode; opening = opening }

-- what waits at the close, as a change
abbrev pub last_of : Bool → Change
last_of slash = record { mark = true; slash = slash; kept = false; run = 0; mode = 0; opening = 0 }

-- the answer to a chunk
unfoldable pub answered : Taken → Result Intake Refusal
answered (on x adds) = Ok x
answered (refused n p) = Err (record { no = n; place = p })

-- what a chunk adds
unfoldable pub added : Taken → List ℕ
added (on x adds) = adds
added (refused n p) = []

-- it is not refused
unfoldable pub passes : Taken → Bool
passes (on x adds) = true
passes (refused n p) = false

-- the bytes xs were put at a place of a store; r is the place behind them
pub record Puts (before : List ℕ) (at : ℕ) (xs : List ℕ) (r : ℕ) (after : List ℕ) : Type 0 where
  pub store : after ≡ written before at xs
  pub behind : r ≡ at + length xs
