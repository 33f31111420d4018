-- `mark_with` meets its contract: the mark is LF as soon as a byte of the run is.
use Rattle.intake.proofs.Bytes.{mark_lf, mark_space}
use Rattle.intake.proofs.mark_with.Goals as goal

pub returns-then-b-run : goal.returns-then-b-run
returns-then-b-run c = mark_lf _ _ c.if-b-run.true

pub returns-else-b-run : goal.returns-else-b-run
returns-else-b-run c = mark_space _ _ c.if-b-run.false
