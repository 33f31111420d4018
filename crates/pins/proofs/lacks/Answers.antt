-- By the three kinds of character: none, one that can have no mark, and any other.
use Prim.Native.Nat.{◌<◌}
use native.Mathlib.Omega.{arith}
use mathlib.Core.Path.{ap}
use mathlib.Core.Bool.{not}
use lib.ListN.{get_or}
use borrow.Author.Tests.{eq-eqb, ne_eqb}
use Rattle.meaning.specs.Bounds.{signals_most}
use Rattle.pins.proofs.lacks.Goals as goal

pub overflow_cast-b : goal.overflow_cast-b
overflow_cast-b c = omega (arith, c.type_inv.values c.args.s)

pub returns-then-b-eq0 : goal.returns-then-b-eq0
returns-then-b-eq0 c = λ text tplaces tables tabs h. rw (eq-eqb _ _ c.if-b-eq0.true)

pub returns-then-b-ge-CHARS : goal.returns-then-b-ge-CHARS
returns-then-b-ge-CHARS c = λ text tplaces tables tabs h.
    let a = c.args in
    let s : a.s < signals_most = omega arith in
    rw (ne_eqb _ _ c.if-b-eq0.false, h.above a.table a.s (get_or a.values.now a.s 0) s c.if-b-ge-CHARS.true)

pub returns : goal.returns
returns c = λ text tplaces tables tabs h.
    rw (ne_eqb _ _ c.if-b-eq0.false) (ap not (h.marks _ _ _ (omega arith) (omega arith) (omega arith)))
