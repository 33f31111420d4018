-- `reported` meets its contract: a fault of the bytes, or what its parts read one behind the other.
use mathlib.Core.Path.{sym}
use borrow.Author.Tests.{eq-eqb, ne_eqb}
use Rattle.tokens.proofs.Results.{handed_on}
use Rattle.reports.proofs.Whole.{faulty, stopped, held}
use Rattle.reports.proofs.reported.Goals as goal

pub returns-then-e-ne0 : goal.returns-then-e-ne0
returns-then-e-ne0 c =
    stopped _
    (sym c.in_ok-fault_in.ensures)
    c.cursor_at-c.ensures
    c.opening-o.ensures
    c.all_records-b.ensures
    c.closing-e.ensures
    (ne_eqb _ _ c.if-e-ne0.true)

pub returns : goal.returns
returns c =
    held _
    (sym c.in_ok-fault_in.ensures)
    c.cursor_at-c.ensures
    c.opening-o.ensures
    c.all_records-b.ensures
    c.closing-e.ensures
    (eq-eqb _ _ c.if-e-ne0.false)

pub returns-in_err-fault_in : goal.returns-in_err-fault_in
returns-in_err-fault_in c = rw (handed_on _ _ c.from_residual.ensures.1) (faulty _ _ (sym c.in_err-fault_in.ensures))
