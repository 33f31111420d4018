-- Each turn joins the next signal's marks, where the body runs in place and something is tracked.
use native.Mathlib.Omega.{arith}
use Rattle.memos.proofs.Rows.{writes_none}
use Rattle.memos.proofs.Marking.{joined_some_none, joined_some_next}
use Rattle.plays.proofs.Marks.{unpassed, passed_on}
use Rattle.plays.proofs.mark_passed.Goals as goal

pub returns-then-i-tracks : goal.returns-then-i-tracks
returns-then-i-tracks c =
    (writes_none, λ s. (0, λ some long h. unpassed c.args.memo.now _ c.if-i-tracks.true c.tracks.ensures.1 some long))

pub loop-s-init : goal.loop-s-init
loop-s-init c =
    joined_some_none

pub join_at-requires : goal.join_at-requires
join_at-requires c =
    (c.requires.0, omega (arith, c.requires.1), omega (arith, (c.tracks.ensures.0 (passed_on c.args.i _ c.if-i-tracks.false).1).1, c.loop-s.invariant.writes.long), c.sum_marks.ensures.0)

pub loop-s-preserved : goal.loop-s-preserved
loop-s-preserved c =
    let on = passed_on c.args.i _ c.if-i-tracks.false in
    let j = c.join_at.ensures in
    joined_some_next c.sum_marks.result j.0 c.loop-s.invariant (omega (arith, c.requires.1)) (omega (arith, (c.tracks.ensures.0 on.1).1, c.loop-s.invariant.writes.long, c.requires.0, c.requires.1)) j.1 j.2 (record { in_place = λ l. c.sum_marks.ensures.1; comes_back = λ l. absurd (omega (arith, on.0)) }) j.3

pub returns : goal.returns
returns c =
    (c.loop-s.invariant.writes, λ s. ((c.loop-s.invariant.each s).0, λ some long h. (c.loop-s.invariant.each s).1 (omega arith)))
