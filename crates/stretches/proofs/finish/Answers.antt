-- `finish` meets its contract: the row in hand, if there is one, and the brace.
use native.Mathlib.Omega.{arith}
use Rattle.stretches.proofs.Taking.{ends_empty, ends_row}
use Rattle.stretches.proofs.finish.Goals as goal

pub returns-then-f-eq0 : goal.returns-then-f-eq0
returns-then-f-eq0 c = ends_empty _ _ c.if-f-eq0.true c.add.ensures

pub returns : goal.returns
returns c = ends_row _ _ (omega arith) c.flush-p.ensures c.add-2.ensures
