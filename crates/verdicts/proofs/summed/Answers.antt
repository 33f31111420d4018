-- `summed` meets its contract: what 1 to 16 leave has a run, whatever waveform was watched for; the sums show that no cycle of it fails, or tell which bodies
-- are passed where it is played.
use Prim.Native.Nat.{ℕ, ◌*◌}
use lib.ListN.{length-replicate}
use Rattle.words.proofs.Words.{zeros}
use Rattle.measures.specs.Book.{bodies}
use Rattle.tallies.specs.Rows.{row_size}
use Rattle.grants.specs.Grants.{rows}
use Rattle.verdicts.proofs.Found.{runs}
use Rattle.verdicts.proofs.summed.Goals as goal

pub granted-granted-requires : goal.granted-granted-requires
granted-granted-requires c = (
  record { parts = _; read = _; body = _; runs = runs c.requires.1 },
  record { marks_long = length-replicate {A = ℕ} bodies 0; sums_long = length-replicate {A = ℕ} (rows * row_size) 0; unmarked = zeros bodies },
)

pub returns-then-granted : goal.returns-then-granted
returns-then-granted c = record { decides = λ f. (c.granted-granted.ensures.2 _ _ _ (runs f)).1 c.if-granted.true }

pub first_failing-requires : goal.first_failing-requires
first_failing-requires c = record { parts = _; read = _; body = _; runs = runs c.requires.1 }

pub returns : goal.returns
returns c = record { decides = λ f. c.first_failing.ensures _ _ _ (runs f) (c.granted-granted.ensures.2 _ _ _ (runs f)).0 }
