-- `waits` meets its contract: only the run's mark is worked out.
use mathlib.Core.Path.{◌∙◌}
use Rattle.intake.proofs.waits.Goals as goal

pub returns : goal.returns
returns c = c.holds.ensures ∙ rw c.mark_with.ensures
