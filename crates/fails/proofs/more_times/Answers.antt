-- `more_times` meets its contract.
use mathlib.Core.Path.{ap}
use mathlib.Core.Bool.{not}
use Rattle.fails.proofs.Listing.{more_other, more_first, more_again}
use Rattle.fails.proofs.more_times.Goals as goal

-- src/lib.rt:68:9
pub returns-then-not-here : goal.returns-then-not-here
returns-then-not-here c = more_other (ap not c.if-not-here.true)

-- src/lib.rt:71:9
pub returns-then-t-eq0 : goal.returns-then-t-eq0
returns-then-t-eq0 c = more_first (ap not c.if-not-here.false) c.if-t-eq0.true

-- src/lib.rt:64:1
pub returns : goal.returns
returns c = more_again (ap not c.if-not-here.false) c.if-t-eq0.false
