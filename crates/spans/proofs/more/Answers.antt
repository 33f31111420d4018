-- `more` meets its contract: the first stays and the last changes.
use Rattle.spans.proofs.Adding.{first_more, last_more}
use Rattle.spans.proofs.more.Goals as goal

pub returns : goal.returns
returns c = λ k t e es b q x. record { first = first_more k t e es b q x.first c.first.ensures; last = last_more k t e es b q x.last c.last.ensures }
