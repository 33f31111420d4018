-- `in_block` meets its contract: a `*` might close the comment.
use mathlib.Core.Path.{sym, ◌∙◌}
use Rattle.intake.proofs.Bytes.{block_star, block_goes, holds_step}
use Rattle.intake.proofs.in_block.Goals as goal

pub returns-then-b-eq42 : goal.returns-then-b-eq42
returns-then-b-eq42 c =
    let args = c.args in
    holds_step args.it args.b _ _ _ c.waits.ensures ∙ sym (block_star args.it args.b c.if-b-eq42.true)

pub returns : goal.returns
returns c =
    let args = c.args in
    holds_step args.it args.b _ _ _ c.waits-2.ensures ∙ sym (block_goes args.it args.b c.if-b-eq42.false)
