-- `open` meets its contract: three pieces, one behind the other.
use Rattle.tokens.specs.Written.{bytes}
use Rattle.pens.proofs.Laws.{writes_both, writes_same}
use Rattle.stretches.proofs.Writing.{opened_is}
use Rattle.stretches.proofs.open.Goals as goal

pub returns : goal.returns
unfolding bytes
returns c = writes_same (opened_is c.args.i) (writes_both (writes_both c.add-p.ensures c.add_number-q.ensures) c.add.ensures)
