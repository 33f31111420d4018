-- Each turn joins the next signal's marks.
use native.Mathlib.Omega.{arith}
use lib.ListN.{length}
use Rattle.memos.proofs.Rows.{writes_none}
use Rattle.memos.proofs.Marking.{joined_next, untracked, tracked_room}
use Rattle.memos.proofs.mark.Goals as goal

pub returns-then-level-memo : goal.returns-then-level-memo
returns-then-level-memo c =
    (writes_none, untracked c.args.level (length c.args.memo.now) c.if-level-memo.true)

pub loop-s-preserved : goal.loop-s-preserved
loop-s-preserved c =
    let given = c.shown_marks.ensures.0 _ c.table_mark-shown.ensures.0 in
    let j = rw (c.marks.ensures.0, given) at c.join.ensures.1 in
    joined_next c.join.result c.loop-s.invariant (omega (arith, c.requires.1)) (omega (arith, c.loop-s.invariant.writes.long, (tracked_room c.args.level (length c.args.memo.now) c.if-level-memo.false).1, c.requires.0, c.requires.1)) c.join.ensures.0 j

pub returns : goal.returns
returns c =
    (c.loop-s.invariant.writes, λ some long s h. c.loop-s.invariant.each s (omega arith))
