-- `in_line` meets its contract: only LF ends the comment.
use mathlib.Core.Path.{sym, ◌∙◌}
use Rattle.intake.proofs.Bytes.{line_ends, line_goes, holds_step}
use Rattle.intake.proofs.in_line.Goals as goal

pub returns-then-b-eq10 : goal.returns-then-b-eq10
returns-then-b-eq10 c =
    let args = c.args in
    holds_step args.it args.b _ _ _ c.waits.ensures ∙ sym (line_ends args.it args.b c.if-b-eq10.true)

pub returns : goal.returns
returns c =
    let args = c.args in
    holds_step args.it args.b _ _ _ c.waits-2.ensures ∙ sym (line_goes args.it args.b c.if-b-eq10.false)
