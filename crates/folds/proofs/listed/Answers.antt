-- `listed` meets its contract: three pieces, one behind the other.
use Rattle.folds.proofs.Laws.{listed_writes}
use Rattle.folds.proofs.listed.Goals as goal

pub returns : goal.returns
returns c = listed_writes c.args.i c.add-p.ensures c.add_number-q.ensures c.add.ensures
