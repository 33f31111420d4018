-- By the code's tests, one after the other: no word, this time of it, and the times behind it.
use native.Mathlib.Omega.{arith}
use Rattle.feeds.proofs.Front.{fine_none, fine_outside, fine_some, fine_most, fine_once, fine_again}
use Rattle.feeds.proofs.fine.Goals as goal

pub returns-then-end-at : goal.returns-then-end-at
returns-then-end-at c = fine_none c.if-end-at.true

pub returns-then-text-end : goal.returns-then-text-end
returns-then-text-end c = fine_outside c.if-text-end.true

pub marked-requires : goal.marked-requires
marked-requires c = (omega arith, omega arith)

pub overflow_sub-n : goal.overflow_sub-n
overflow_sub-n c = omega (arith, c.marked.ensures)

pub overflow_sub-end : goal.overflow_sub-end
overflow_sub-end c = omega arith

pub returns-then-n-end : goal.returns-then-n-end
returns-then-n-end c = fine_some c.if-text-end.false (omega (arith, c.marked.ensures)) c.if-n-end.true c.min.ensures

pub returns-then-most-n : goal.returns-then-most-n
returns-then-most-n c = fine_most c.if-text-end.false (omega (arith, c.marked.ensures)) c.if-n-end.false c.if-most-n.true

pub returns-then-end-from : goal.returns-then-end-from
returns-then-end-from c = fine_once c.if-text-end.false (omega (arith, c.marked.ensures)) c.if-n-end.false (omega arith) c.if-end-from.true

pub overflow_sub-most : goal.overflow_sub-most
overflow_sub-most c = omega arith

pub fine_times-requires : goal.fine_times-requires
fine_times-requires c = (omega arith, omega arith)

pub overflow_add-result : goal.overflow_add-result
overflow_add-result c = omega (arith, c.fine_times.ensures)

pub returns : goal.returns
returns c =
    fine_again c.if-text-end.false (omega (arith, c.marked.ensures)) c.if-n-end.false
    (omega arith) c.fine_times.ensures
