-- `spaced` meets its contract: its two pieces are a blank and the number.
use Rattle.index.proofs.Writing.{spaced_adds}
use Rattle.index.proofs.spaced.Goals as goal

pub returns : goal.returns
returns c = spaced_adds c.args.n c.put-end.ensures c.put_number.ensures
