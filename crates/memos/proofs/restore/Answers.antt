-- Each turn leaves the next signal's pin.
use native.Mathlib.Omega.{arith}
use Rattle.memos.proofs.Rows.{restores_next, restores_all}
use Rattle.memos.proofs.restore.Goals as goal

pub loop-s-preserved : goal.loop-s-preserved
loop-s-preserved c =
    let e = c.left_on.ensures in
    let m = c.marks_of-m.ensures in
    restores_next c.loop-s.invariant c.left_on.result c.byte_of.result (omega (arith, c.loop-s.invariant.long)) c.byte_of.ensures (rw m at e)

pub returns : goal.returns
returns c =
    restores_all c.loop-s.invariant (omega arith)
