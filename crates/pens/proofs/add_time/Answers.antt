-- `add_time` meets its contract: digits and a unit.
use native.Mathlib.Omega.{arith}
use Rattle.pens.proofs.Laws.{writes_both, writes_same, time_ns, time_ps}
use Rattle.pens.proofs.add_time.Goals as goal

pub returns-then-time-eq0 : goal.returns-then-time-eq0
returns-then-time-eq0 c = writes_same (time_ns _ (omega arith)) (writes_both c.add_number-p.ensures c.add.ensures)

pub returns : goal.returns
returns c = writes_same (time_ps _ (λ e. omega arith)) (writes_both c.add_number-p-2.ensures c.add-2.ensures)
