-- `add_signed` meets its contract: a `-` and the amount, or the amount alone.
use Rattle.pens.proofs.Laws.{writes_both, writes_same, signed_before_lem, signed_behind}
use Rattle.pens.proofs.add_signed.Goals as goal

pub returns-then-time-lt-START : goal.returns-then-time-lt-START
returns-then-time-lt-START c =
    writes_same (signed_before_lem _ c.if-time-lt-START.true) (writes_both c.add-p.ensures c.add_time.ensures)

pub returns : goal.returns
returns c = writes_same (signed_behind _ c.if-time-lt-START.false) c.add_time-2.ensures
