-- On the way the cost is spent, and behind the cycle nothing is.
use Rattle.rows.proofs.Spending.{spent_walking, spent_none}
use Rattle.rows.proofs.spend.Goals as goal

pub overflow_sub-result : goal.overflow_sub-result
overflow_sub-result c = c.requires c.if-w.true

pub returns-then-w : goal.returns-then-w
returns-then-w c = spent_walking c.args.w c.args.cost c.if-w.true

pub returns : goal.returns
returns c = spent_none c.args.w c.args.cost c.if-w.false
