-- `value` meets its contract: nothing, or name and character.
use Rattle.pens.proofs.Laws.{writes_both, writes_same}
use Rattle.folds.proofs.Laws.{writes_nothing}
use Rattle.stretches.proofs.Writing.{value_none, value_some}
use Rattle.stretches.proofs.value.Goals as goal

pub returns-then-c-eq-UNASSIGNED : goal.returns-then-c-eq-UNASSIGNED
returns-then-c-eq-UNASSIGNED c = writes_same (value_none _ c.if-c-eq-UNASSIGNED.true) (writes_nothing _ _)

pub returns : goal.returns
returns c = writes_same (value_some _ _ c.name_bytes.ensures c.if-c-eq-UNASSIGNED.false) (writes_both c.add-p.ensures c.add.ensures)
