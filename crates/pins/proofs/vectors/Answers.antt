-- Each turn of the outer loop is a turn of the V, and those that are gone on at once behind it; each of the inner one a signal of its cycle.
use native.Mathlib.Omega.{arith}
use Rattle.pins.proofs.Callers.{others_then, roomy_kept}
use Rattle.pins.proofs.Cycles.{searched_next, searched_lacks, searched_all, after_all, after_no_table, after_searched, after_lacks}
use Rattle.pins.proofs.vectors.Goals as goal

pub loop-s-preserved : goal.loop-s-preserved
loop-s-preserved c =
    let others = others_then c.loop-i.invariant.1 c.put.ensures.0 in
    let pre = c.requires in
    let room = roomy_kept pre.0 others in
    let turn = c.loop-s in
    searched_next turn.invariant (omega (arith, room.values_long, room.few)) c.loop-s-test.true c.lacks.ensures c.if-lacks.false

pub loop-i-preserved : goal.loop-i-preserved
loop-i-preserved c =
    let advance = c.advance-k.ensures in
    let others = others_then c.loop-i.invariant.1 c.put.ensures.0 in
    let room = roomy_kept c.requires.0 others in
    let turn = c.loop-s in
    let more = c.loop-i-test.true in
    let searched = searched_all turn.invariant (omega (arith, room.values_long, room.few)) c.loop-s-test.false in (
      omega (arith, more, advance.ahead.few),
      others_then others advance.others,
      after_searched c.loop-i.invariant.2 more c.put.ensures.1 c.if-table-ge-TABLES.false searched room.few (omega (arith, room.values_long, room.few)) advance,
    )

pub returns : goal.returns
returns c = (c.loop-i.invariant.1, after_all c.loop-i.invariant.2 (omega arith))

pub returns-then-table-ge-TABLES : goal.returns-then-table-ge-TABLES
returns-then-table-ge-TABLES c =
    (others_then c.loop-i.invariant.1 c.put.ensures.0, after_no_table c.loop-i.invariant.2 c.loop-i-test.true c.put.ensures.1 c.if-table-ge-TABLES.true)

pub returns-then-lacks : goal.returns-then-lacks
returns-then-lacks c =
    let others = others_then c.loop-i.invariant.1 c.put.ensures.0 in
    let pre = c.requires in
    let room = roomy_kept pre.0 others in
    let lacking = searched_lacks c.loop-s.invariant (omega (arith, room.values_long, room.few)) c.loop-s-test.true c.lacks.ensures c.if-lacks.true in
    (others, after_lacks c.loop-i.invariant.2 c.loop-i-test.true c.put.ensures.1 c.if-table-ge-TABLES.false lacking)
