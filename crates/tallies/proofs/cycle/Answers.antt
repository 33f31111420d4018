-- Each turn shows the next signal.
use native.Mathlib.Omega.{arith}
use Rattle.tallies.proofs.Grown.{more_then}
use Rattle.tallies.proofs.Showing.{cycling_next, cycled}
use Rattle.tallies.proofs.cycle.Goals as goal

pub loop-s-preserved : goal.loop-s-preserved
loop-s-preserved c = cycling_next c.loop-s.invariant (omega arith) c.byte-x.ensures c.show.ensures.0 c.show.ensures.1

pub returns : goal.returns
returns c =
    let y = c.loop-s.invariant in
    let t = c.need_table-t.ensures in
    ((more_then t.0 y.more).only, cycled t.0 t.1 y _ (omega arith))
