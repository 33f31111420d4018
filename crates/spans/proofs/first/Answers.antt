-- `first` meets its contract: the test decides.
use Rattle.spans.proofs.first.Goals as goal

pub returns-then-here-old : goal.returns-then-here-old
returns-then-here-old c = rw c.if-here-old.true

pub returns-else-here-old : goal.returns-else-here-old
returns-else-here-old c = rw c.if-here-old.false
