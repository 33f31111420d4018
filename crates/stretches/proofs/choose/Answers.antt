-- `choose` meets its contract: three pieces, one behind the other.
use mathlib.Core.List.{[]}
use Rattle.tokens.specs.Written.{bytes}
use Rattle.pens.proofs.Laws.{writes_both, writes_same}
use Rattle.stretches.proofs.Writing.{chooses_is}
use Rattle.stretches.proofs.choose.Goals as goal

pub returns : goal.returns
unfolding bytes
returns c = writes_same (chooses_is [] _ c.args.k) (writes_both (writes_both c.add-p.ensures (writes_same c.table_name.ensures c.add-q.ensures)) c.add.ensures)
