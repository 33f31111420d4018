-- `event` meets its contract: three pieces, one behind the other.
use Rattle.timings.proofs.Writing.{event_writes}
use Rattle.timings.proofs.event.Goals as goal

pub returns : goal.returns
returns c = event_writes c.args.time c.add-p.ensures c.add_signed-q.ensures c.add.ensures
