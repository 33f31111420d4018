-- `first_outside` meets its contract: an earlier one stays the first.
use borrow.Author.Tests.{le-leb, lt-leb}
use Rattle.reports.specs.Read.{earlier}
use Rattle.reports.proofs.first_outside.Goals as goal

pub returns-in-None : goal.returns-in-None
unfolding earlier
returns-in-None c = rw (c.in-None.is, le-leb _ _ c.if-left-n.true)

pub returns-in_default : goal.returns-in_default
unfolding earlier
returns-in_default c = rw (c.in-None.is, lt-leb _ _ c.if-left-n.false)

pub returns-in_default-2 : goal.returns-in_default-2
unfolding earlier
returns-in_default-2 c = rw c.in_default.is
