-- Word by word: a character that is taken, and those of its word behind it.
use Prim.Native.Nat.{◌+◌}
use native.Mathlib.Omega.{arith}
use Rattle.pins.proofs.Advancing.{far_none, far_on, having_then}
use Rattle.pins.proofs.having.Goals as goal

pub loop-n-init : goal.loop-n-init
loop-n-init c = (0, omega arith, far_none)

pub has_mark-requires : goal.has_mark-requires
has_mark-requires c = c.requires

pub returns-then-not-has_mark : goal.returns-then-not-has_mark
returns-then-not-has_mark c =
    let i = c.loop-n.invariant in
    rw i.1 (having_then c.in_word-n.ensures c.skip-here.ensures i.2.having (omega (arith, c.in_word-n.ensures.few)))

pub overflow_sub-most : goal.overflow_sub-most
overflow_sub-most c = omega arith

pub overflow_sub-most-in-loop-n : goal.overflow_sub-most-in-loop-n
overflow_sub-most-in-loop-n c = omega arith

pub in_word-k-requires : goal.in_word-k-requires
in_word-k-requires c = c.requires

pub overflow_add-n : goal.overflow_add-n
overflow_add-n c = omega (arith, c.in_word-k.ensures.few, c.loop-n-test.true, c.ranges.most)

pub overflow_add-n-in-loop-n : goal.overflow_add-n-in-loop-n
overflow_add-n-in-loop-n c = omega (arith, c.in_word-k.ensures.few, c.loop-n-test.true, c.ranges.most)

pub loop-n-smaller : goal.loop-n-smaller
loop-n-smaller c = omega arith

pub loop-n-preserved : goal.loop-n-preserved
loop-n-preserved c =
    let i = c.loop-n.invariant in
    (i.0 + (1 + c.in_word-k.result), omega (arith, i.1), far_on i.2 (omega (arith, i.1)) c.next-x.ensures (c.has_mark.ensures c.if-not-has_mark.false) c.in_word-k.ensures (omega (arith, i.1)) c.skip-here-in-loop-n.ensures)

pub returns : goal.returns
returns c =
    let i = c.loop-n.invariant in
    rw i.1 (having_then c.in_word-n.ensures c.skip-here.ensures i.2.having (omega (arith, c.in_word-n.ensures.few)))
