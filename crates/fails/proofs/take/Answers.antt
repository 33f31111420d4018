-- `take` meets its contract.
use Rattle.fails.proofs.Judging.{none_taken, enough, some_taken}
use Rattle.fails.proofs.take.Goals as goal

-- src/lib.rt:187:9
pub returns-then-x-n : goal.returns-then-x-n
returns-then-x-n c = none_taken c.args.x c.args.n c.if-x-n.true

-- src/lib.rt:193:15
pub overflow_sub-result : goal.overflow_sub-result
overflow_sub-result c = enough c.args.x c.args.n c.if-x-n.false

-- src/lib.rt:183:1
pub returns : goal.returns
returns c = some_taken c.args.x c.args.n c.if-x-n.false
