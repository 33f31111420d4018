-- `behind_star` meets its contract: a `/` closes the comment, and any other byte is one of the comment.
use mathlib.Core.Path.{sym, ◌∙◌}
use Rattle.intake.proofs.Bytes.{star_closes, star_goes, holds_step}
use Rattle.intake.proofs.behind_star.Goals as goal

pub returns-then-b-eq47 : goal.returns-then-b-eq47
returns-then-b-eq47 c =
    let args = c.args in
    holds_step args.it args.b _ _ _ c.waits.ensures ∙ sym (star_closes args.it args.b c.if-b-eq47.true)

pub returns : goal.returns
returns c =
    let args = c.args in
    c.in_block.ensures ∙ sym (star_goes args.it args.b c.if-b-eq47.false)
