-- Each turn takes the next signal.
use native.Mathlib.Omega.{arith}
use Rattle.tallies.proofs.Rows.{assigning_kept, assigning_next, assigning_all}
use Rattle.tallies.proofs.assign.Goals.{then-c-ne0, else-c-ne0}
use Rattle.tallies.proofs.assign.Goals as goal

pub loop-s-preserved : goal.loop-s-preserved
loop-s-preserved c =
    let x = c.loop-s.invariant in
    elim c.if-c-ne0.branch [
      | then-c-ne0 w ↦ rw w.sums-is (assigning_next x (omega arith) w.if-c-ne0.true w.store.ensures)
      | else-c-ne0 w ↦ rw w.sums-is (assigning_kept x (omega arith) w.if-c-ne0.false)
    ]

pub returns : goal.returns
returns c = (c.loop-s.invariant.only, assigning_all c.loop-s.invariant (omega arith))
