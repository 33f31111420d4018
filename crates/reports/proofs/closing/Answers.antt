-- `closing` meets its contract: behind the last brace no token stands.
use Rattle.tokens.specs.Written.{bytes}
use Rattle.words.proofs.Flow.{then}
use Rattle.reports.specs.Report.{closing as closing_due}
use Rattle.reports.proofs.Laws.{ended}
use Rattle.reports.proofs.closing.Goals as goal

pub returns : goal.returns
unfolding closing_due bytes
returns c = then _ c.due-a.ensures (ended c.refuse_if.ensures)
