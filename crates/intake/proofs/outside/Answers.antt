-- `outside` meets its contract: by what the byte is, a line of the definition's table.
use mathlib.Core.Path.{sym, ◌∙◌}
use Rattle.intake.proofs.Bytes.{outside_slash, outside_blank, outside_kept, holds_step, kept_step}
use Rattle.intake.proofs.outside.Goals as goal

pub returns-then-b-eq47 : goal.returns-then-b-eq47
returns-then-b-eq47 c =
    let args = c.args in
    holds_step args.it args.b _ _ _ c.holds.ensures ∙ sym (outside_slash args.it args.b c.if-b-eq47.true)

pub returns-then-is_blank : goal.returns-then-is_blank
returns-then-is_blank c =
    let args = c.args in
    holds_step args.it args.b _ _ _ c.waits.ensures ∙ sym
    (outside_blank args.it args.b c.if-b-eq47.false (sym c.is_blank.ensures ∙ c.if-is_blank.true))

pub returns : goal.returns
returns c =
    let args = c.args in
    kept_step args.it args.b _ _ _ ∙ sym
    (outside_kept args.it args.b c.if-b-eq47.false (sym c.is_blank.ensures ∙ c.if-is_blank.false))
