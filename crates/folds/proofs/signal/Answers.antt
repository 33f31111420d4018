-- `signal` meets its contract: four pieces, one behind the other.
use Rattle.folds.proofs.Laws.{signal_writes}
use Rattle.folds.proofs.signal.Goals as goal

pub returns : goal.returns
returns c =
    signal_writes c.name_bytes.ensures c.direction.ensures c.add-p.ensures c.add-q.ensures c.add-s.ensures c.add.ensures
