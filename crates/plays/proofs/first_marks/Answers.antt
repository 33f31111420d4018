-- One mark of two is asked for, and then the other.
use native.Mathlib.Omega.{arith}
use mathlib.Core.Path.{◌∙◌}
use Rattle.memos.proofs.Marking.{marked_alone, marked_other, marked_here}
use Rattle.plays.proofs.first_marks.Goals as goal

pub marked_if-m-requires : goal.marked_if-m-requires
marked_if-m-requires c =
    (omega arith, omega arith)

pub marked_if-requires : goal.marked_if-requires
marked_if-requires c =
    (c.marked_if-m.ensures.0, omega (arith, c.if-table-lt-TABLES.true))

pub returns-then-table-lt-TABLES : goal.returns-then-table-lt-TABLES
returns-then-table-lt-TABLES c =
    let a = c.marked_if-m.ensures in
    let b = c.marked_if.ensures in (
      b.0,
      marked_other _ _ _ _ (b.1, b.2) 8 (omega arith) (λ z. omega (arith, c.if-table-lt-TABLES.true)) ∙ marked_alone _ 8 _ (omega arith) (a.1, a.2),
      λ e l. marked_here _ _ _ _ (b.1, b.2) e (omega arith),
    )

pub returns : goal.returns
returns c =
    let a = c.marked_if-m.ensures in
    (a.0, marked_alone _ 8 _ (omega arith) (a.1, a.2), λ e l. absurd (omega (arith, c.if-table-lt-TABLES.false)))
