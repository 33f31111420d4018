-- A signal has `#` in a body where its row counts one outside the Shift or marks one in it.
use Rattle.arguments.proofs.Counted.{used}
use Rattle.arguments.proofs.needed.Goals as goal

pub returns : goal.returns
returns c =
    λ b uses. used uses c.args.s c.requires.1
