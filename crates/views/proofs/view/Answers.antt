-- `view` meets its contract: 17 or 25, 12 for the mark, 19, or the window over the run.
use native.Mathlib.Omega.{arith}
use mathlib.Core.Path.{refl, sym, ◌∙◌}
use Rattle.tokens.proofs.Results.{handed_on}
use Rattle.views.proofs.Viewing.{bytes_fit, few_due, accepts, view_refused, view_unmarked, view_full, view_given}
use Rattle.views.proofs.view.Goals as goal

pub returns-in_err-failing : goal.returns-in_err-failing
returns-in_err-failing c =
    rw (handed_on c.from_residual.result _ c.from_residual.ensures.1) (view_refused _ _ _ _ _ c.args.spare (c.in_err-failing.ensures _ c.requires.found))

pub returns-then-is_no_mark : goal.returns-then-is_no_mark
returns-then-is_no_mark c =
    let meant = c.in_ok-failing.ensures _ c.requires.found in
    view_unmarked _ _ _ _ _ c.args.spare meant (sym c.is_no_mark.ensures ∙ c.if-is_no_mark.true)

pub overflow_add-parts : goal.overflow_add-parts
overflow_add-parts c =
    omega (arith, c.requires.found.tabled.few_signals)

pub overflow_mul-due : goal.overflow_mul-due
overflow_mul-due c =
    record { fits = bytes_fit (few_due c.requires.found _ _ c.rows_due-due.ensures) (omega (arith, c.requires.found.tabled.few_signals)) }

pub returns-then-spare-buffer : goal.returns-then-spare-buffer
returns-then-spare-buffer c =
    let meant = c.in_ok-failing.ensures _ c.requires.found in
    view_full c.requires.found _ _ c.rows_due-due.ensures _ (sym c.is_no_mark.ensures ∙ c.if-is_no_mark.false) _ c.args.spare
    c.if-spare-buffer.true meant refl

pub window-visits-requires : goal.window-visits-requires
window-visits-requires c =
    let meant = c.in_ok-failing.ensures _ c.requires.found in
    record {
      parts = _;
      read = _;
      it = _;
      accepts = accepts c.requires.found _ _ c.rows_due-due.ensures _ (sym c.is_no_mark.ensures ∙ c.if-is_no_mark.false)
          c.args.buffer.now c.args.spare c.if-spare-buffer.false meant refl;
    }

pub returns : goal.returns
returns c =
    let due = c.rows_due-due.ensures in
    let buffer = c.args.buffer.now in
    let meant = c.in_ok-failing.ensures _ c.requires.found in
    let good = sym c.is_no_mark.ensures ∙ c.if-is_no_mark.false in
    let room = c.if-spare-buffer.false in
    view_given c.requires.found _ _ due _ good buffer c.args.spare room meant refl
    (c.window-visits.ensures _ _ _ (accepts c.requires.found _ _ due _ good buffer c.args.spare room meant refl))
