-- Each turn adds the next table's mark.
use native.Mathlib.Omega.{arith}
use Rattle.plays.proofs.Marks.{summing_first, summing_next, summing_all}
use Rattle.plays.proofs.sum_marks.Goals as goal

pub loop-t-init : goal.loop-t-init
loop-t-init c =
    summing_first c.shows.ensures c.first_marks-m.ensures

pub loop-t-preserved : goal.loop-t-preserved
loop-t-preserved c =
    let q = c.marked_if-m.ensures in
    summing_next _ c.loop-t.invariant (omega arith) c.shows-in-loop-t.ensures q.0 (q.1, q.2)

pub returns : goal.returns
returns c =
    (c.loop-t.invariant.few, summing_all c.args.sums.now c.args.r (omega arith) c.assigns-assigned.ensures c.loop-t.invariant)
