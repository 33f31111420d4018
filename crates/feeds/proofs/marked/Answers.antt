-- The invariant: what is marked from the beginning on are the bytes so far, and what is marked behind them.
use native.Mathlib.Omega.{arith}
use Rattle.feeds.proofs.Front.{front_next, front_here, front_end, unmarked_past}
use Rattle.feeds.proofs.marked.Goals as goal

pub overflow_cast-b : goal.overflow_cast-b
overflow_cast-b c = omega (arith, c.type_inv.text c.loop-i.i)

pub returns-then-marks-b : goal.returns-then-marks-b
returns-then-marks-b c =
    let start = c.args in
    let loop = c.loop-i in
    omega (arith, loop.invariant, front_here start.marks.now start.text.now loop.i start.end (omega arith) (omega arith) (unmarked_past start.marks.now _ c.if-marks-b.true))

pub returns-then-marks-b-ne1 : goal.returns-then-marks-b-ne1
returns-then-marks-b-ne1 c =
    let start = c.args in
    let loop = c.loop-i in
    omega (arith, loop.invariant, front_here start.marks.now start.text.now loop.i start.end (omega arith) (omega arith) c.if-marks-b-ne1.true)

pub loop-i-preserved : goal.loop-i-preserved
loop-i-preserved c =
    let start = c.args in
    let loop = c.loop-i in
    let one = front_next start.marks.now start.text.now loop.i start.end (omega arith) (omega arith) c.if-marks-b-ne1.false in
    omega (arith, loop.invariant, one)

pub returns : goal.returns
returns c =
    let start = c.args in
    let loop = c.loop-i in
    omega (arith, loop.invariant, front_end start.marks.now start.text.now loop.i start.end (omega arith))
