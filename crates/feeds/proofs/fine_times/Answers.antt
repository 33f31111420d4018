-- Not said; said with a byte that is not marked; or said so often, as far as the quotient lets it.
use Prim.Native.Nat.{◌-◌, ◌*◌, ◌≤◌, ◌<◌}
use native.Mathlib.Omega.{arith}
use native.Mathlib.Nat.{le-div_iff_mul-le, div-lt_iff_lt-mul}
use Rattle.words.specs.Cursor.{span}
use Rattle.feeds.proofs.Front.{times_none, times_some, times_all}
use borrow.Author.Rules.{rules}
use Rattle.feeds.proofs.fine_times.Goals as goal

pub returns-then-times-eq0 : goal.returns-then-times-eq0
returns-then-times-eq0 c =
    let start = c.args in
    omega (arith, times_none start.marks.now start.times (span start.text.now start.from start.end) c.if-times-eq0.true)

pub overflow_sub-width : goal.overflow_sub-width
overflow_sub-width c = omega arith

pub marked-requires : goal.marked-requires
marked-requires c = (omega arith, omega arith)

pub overflow_sub-n : goal.overflow_sub-n
overflow_sub-n c = omega (arith, c.marked.ensures)

pub returns-then-n-width : goal.returns-then-n-width
returns-then-n-width c =
    let start = c.args in
    omega (arith, c.min.ensures, times_some start.marks.now start.text.now start.from start.end (omega arith) start.times c.if-times-eq0.false (omega (arith, c.marked.ensures)) c.if-n-width.true)

pub returns-then-most-width : goal.returns-then-most-width
returns-then-most-width c =
    let start = c.args in
    let width = start.end - start.from in
    let above : start.most < start.times * width = (div-lt_iff_lt-mul {k = width} (omega arith)).0 c.if-most-width.true in
    omega (arith, times_all start.marks.now start.text.now start.from start.end (omega arith) start.times (omega (arith, c.marked.ensures)) c.if-n-width.false)

pub overflow_mul-result : goal.overflow_mul-result
overflow_mul-result c =
    let start = c.args in
    let width = start.end - start.from in
    let within : start.times * width ≤ start.most = (le-div_iff_mul-le {k = width} (omega arith)).0 c.if-most-width.false in
    search rules

pub returns : goal.returns
returns c =
    let start = c.args in
    let width = start.end - start.from in
    let within : start.times * width ≤ start.most = (le-div_iff_mul-le {k = width} (omega arith)).0 c.if-most-width.false in
    omega (arith, times_all start.marks.now start.text.now start.from start.end (omega arith) start.times (omega (arith, c.marked.ensures)) c.if-n-width.false)
