-- By the body's table: one, or none.
use Rattle.tallies.proofs.Entering.{retabled_one, retabled_none}
use Rattle.tallies.proofs.retable.Goals as goal

pub returns-then-k-lt-TABLES : goal.returns-then-k-lt-TABLES
returns-then-k-lt-TABLES c = retabled_one c.args.sums.now c.args.to c.args.from c.byte-k.ensures c.if-k-lt-TABLES.true c.store.ensures

pub returns-else-k-lt-TABLES : goal.returns-else-k-lt-TABLES
returns-else-k-lt-TABLES c = retabled_none c.args.sums.now c.args.to c.args.from c.byte-k.ensures c.if-k-lt-TABLES.false
