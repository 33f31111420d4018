-- One byte of the row.
use Rattle.tallies.proofs.Signals.{pin_assigned}
use Rattle.tallies.proofs.assigns.Goals as goal

pub returns : goal.returns
returns c = rw c.byte.ensures (pin_assigned c.args.sums.now c.args.r c.args.s c.requires.1)
