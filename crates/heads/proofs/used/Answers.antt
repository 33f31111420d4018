-- `used` meets its contract: a name that is found has a number in the book, and with it a measure and a row.
use mathlib.Core.Path.{◌∙◌}
use Prim.Native.Nat.{◌+◌, ◌<◌}
use native.Mathlib.Omega.{arith}
use borrow.Author.Tests.{eq-eqb, ne_eqb}
use Rattle.measures.specs.Book.{bodies}
use Rattle.arguments.specs.Supplied.{UsedRow}
use Rattle.heads.proofs.Using.{taken, no_body, body_below, row_used, body_used}
use Rattle.heads.proofs.used.Goals as goal
use Rattle.heads.proofs.used.Goals.{Else-a-ne0}

-- where the name was found
below : (c : Else-a-ne0) → c.args.part.first + c.old_name-x.result.number < bodies
below c = body_below c.old_name-x.result.number c.old_name-x.ensures c.requires.1 (eq-eqb _ _ c.if-a-ne0.false)

row : (c : Else-a-ne0) → UsedRow (taken c.args.rows.now (c.args.part.first + c.old_name-x.result.number))
row c = row_used c.old_name-x.result.number c.old_name-x.ensures c.requires.1 (eq-eqb _ _ c.if-a-ne0.false)

pub returns-then-a-ne0 : goal.returns-then-a-ne0
returns-then-a-ne0 c =
    let name = c.old_name-x in
    λ k ds tables o. no_body name.result.number name.ensures c.args.d _ o (ne_eqb _ _ c.if-a-ne0.true)

pub overflow_add-i : goal.overflow_add-i
overflow_add-i c = omega (arith, below (goal.at.overflow_add-i c).Else-a-ne0)

pub measure_at-m-requires : goal.measure_at-m-requires
measure_at-m-requires c = (c.requires.2, omega (arith, below (goal.at.measure_at-m-requires c).Else-a-ne0))

pub overflow_mul-row : goal.overflow_mul-row
overflow_mul-row c = omega (arith, below (goal.at.overflow_mul-row c).Else-a-ne0)

pub overflow_mul-row-2 : goal.overflow_mul-row-2
overflow_mul-row-2 c = omega (arith, below (goal.at.overflow_mul-row-2 c).Else-a-ne0)

pub overflow_add-row : goal.overflow_add-row
overflow_add-row c = omega (arith, below (goal.at.overflow_add-row c).Else-a-ne0)

pub offset_bounds-rows-i : goal.offset_bounds-rows-i
offset_bounds-rows-i c = omega (arith, below (goal.at.offset_bounds-rows-i c).Else-a-ne0)

pub slice_bounds-row-end : goal.slice_bounds-row-end
slice_bounds-row-end c = omega (arith, below (goal.at.slice_bounds-row-end c).Else-a-ne0, c.requires.3)

pub arguments-g-requires : goal.arguments-g-requires
arguments-g-requires c =
    (c.requires.0, row (goal.at.arguments-g-requires c).Else-a-ne0, c.requires.5, c.requires.6)

pub fitted-f-requires : goal.fitted-f-requires
fitted-f-requires c =
    let kept = c.arguments-g.auto in
    ((row (goal.at.fitted-f-requires c).Else-a-ne0).uses.long, kept.given ∙ c.requires.5.long, kept.args ∙ c.requires.6)

pub returns : goal.returns
returns c =
    λ x ds tables o.
    body_used c.old_name-x.result.number c.old_name-x.ensures c.requires.1 (eq-eqb _ _ c.if-a-ne0.false) c.args.d
    _
    c.requires.4
    c.measure_at-m.ensures
    c.refuse_if-b.ensures
    c.arguments-g.ensures
    c.fitted-f.ensures
    c.is_none.ensures
    c.refuse_if-cursor.ensures
    c.unwrap_or.ensures
    tables
    o
