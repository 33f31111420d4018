-- `slot` meets its contract: the two categories lie one behind the other.
use native.Mathlib.Omega.{arith}
use Rattle.timing.proofs.slot.Goals as goal

pub returns-then-drives : goal.returns-then-drives
returns-then-drives c = rw (← c.drives.ensures, c.if-drives.true) (omega arith)

pub returns-else-drives : goal.returns-else-drives
returns-else-drives c = rw (← c.drives.ensures, c.if-drives.false)
