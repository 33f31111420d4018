-- `fine` meets its contract: drive events and compare events in order.
use Rattle.spans.proofs.Looking.{fine_follows}
use Rattle.spans.proofs.fine.Goals as goal

pub returns : goal.returns
returns c =
    λ tabs x. fine_follows tabs x c.args.j c.args.k c.args.s c.args.c c.args.d c.requires.1 c.requires.2 c.requires.3
    c.time.ensures c.time-2.ensures c.apart-drives.ensures
    c.time-3.ensures c.time-4.ensures c.apart-compares.ensures
