-- `head` meets its contract: five parts, one behind the other.
use Rattle.tokens.specs.Written.{bytes}
use Rattle.flats.proofs.Whole.{heads_are}
use Rattle.flats.proofs.head.Goals as goal

pub signals-b-requires : goal.signals-b-requires
signals-b-requires c = c.requires.few

pub timing-c-requires : goal.timing-c-requires
timing-c-requires c = (c.requires.it, c.requires.meant)

pub returns : goal.returns
unfolding bytes
returns c = heads_are c.add-a.ensures c.signals-b.ensures c.timing-c.ensures c.burst-d.ensures c.exec.ensures
