-- `title` meets its contract: five pieces, one behind the other.
use Rattle.tokens.specs.Written.{bytes}
use Rattle.timings.proofs.Writing.{title_writes}
use Rattle.timings.proofs.title.Goals as goal

pub returns : goal.returns
unfolding bytes
returns c = title_writes c.args.period c.add-p.ensures c.add-q.ensures c.add-s.ensures c.add_time-t.ensures c.add.ensures
