-- `part` meets its contract: the brace, and then the next Pattern.
use mathlib.Core.Path.{sym}
use Rattle.pens.proofs.Laws.{writes_both, writes_same}
use Rattle.stretches.proofs.Writing.{own_closed}
use Rattle.stretches.proofs.part.Goals as goal

pub returns : goal.returns
returns c = writes_same (sym (own_closed _)) (writes_both c.add-p.ensures c.open.ensures)
