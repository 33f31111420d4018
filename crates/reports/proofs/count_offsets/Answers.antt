-- `count_offsets` meets its contract: each turn reads one offset more; there are no more of them than tokens.
use mathlib.Core.Path.{refl}
use mathlib.Core.List.{[]}
use native.Mathlib.Omega.{arith}
use Rattle.tokens.specs.Written.{bytes}
use Rattle.words.proofs.Loops.{begins, on, over, ends, room_most_lem}
use Rattle.reports.specs.Report.{one_more}
use Rattle.reports.specs.Read.{first_outside}
use Rattle.reports.proofs.Passing.{takes_more}
use Rattle.reports.proofs.Counting.{one_more_lem, fewer}
use Rattle.reports.proofs.count_offsets.Goals as goal

pub loop-at-init : goal.loop-at-init
unfolding first_outside
loop-at-init c = (record { so_far = []; leads = begins; many = refl; firsts = refl }, omega (arith, room_most_lem c.args.report.now c.args.c))

pub overflow_add-count : goal.overflow_add-count
overflow_add-count c =
    omega (arith, c.loop-at.invariant.1, fewer (on _ _ c.until.ensures c.loop-at-test.true) c.offset-o.ensures)

pub loop-at-smaller : goal.loop-at-smaller
loop-at-smaller c =
    fewer (on _ _ c.until.ensures c.loop-at-test.true) c.offset-o.ensures

pub loop-at-preserved : goal.loop-at-preserved
loop-at-preserved c =
    let inv = c.loop-at.invariant in
    let room-less = fewer (on _ _ c.until.ensures c.loop-at-test.true) c.offset-o.ensures in
    (one_more_lem inv.0 c.until.ensures c.loop-at-test.true c.offset-o.ensures c.first_outside-outside.ensures, omega (arith, inv.1, room-less))

pub returns : goal.returns
unfolding bytes
returns c =
    let kept = c.loop-at.invariant.0 in
    record {
      list = kept.so_far;
      goes = ends ";" one_more [] (over _ one_more takes_more kept.leads c.until.ensures c.loop-at-test.false) c.due-end.ensures;
      many = kept.many;
      first = kept.firsts;
    }
