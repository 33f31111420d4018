-- `behind_slash` meets its contract: by what the byte is, a line of the definition's table.
use mathlib.Core.Path.{sym, ◌∙◌}
use Rattle.intake.proofs.Bytes.{slash_line, slash_block, slash_blank, slash_kept, holds_step, slash_only_step, slash_kept_step}
use Rattle.intake.proofs.behind_slash.Goals as goal

pub returns-then-b-eq47 : goal.returns-then-b-eq47
returns-then-b-eq47 c =
    let args = c.args in
    holds_step args.it args.b _ _ _ c.waits.ensures ∙ sym (slash_line args.it args.b c.if-b-eq47.true)

pub returns-then-b-eq42 : goal.returns-then-b-eq42
returns-then-b-eq42 c =
    let args = c.args in
    holds_step args.it args.b _ _ _ c.waits-then-b-eq42.ensures ∙ sym (slash_block args.it args.b c.if-b-eq42.true)

pub returns-then-is_blank : goal.returns-then-is_blank
returns-then-is_blank c =
    let args = c.args in
    rw c.mark_with.ensures
    (slash_only_step args.it args.b _ _ _
    ∙ sym
    (slash_blank args.it args.b c.if-b-eq47.false c.if-b-eq42.false
    (sym c.is_blank.ensures ∙ c.if-is_blank.true)))

pub returns : goal.returns
returns c =
    let args = c.args in
    slash_kept_step args.it args.b _ _ _ ∙ sym
    (slash_kept args.it args.b c.if-b-eq47.false c.if-b-eq42.false (sym c.is_blank.ensures ∙ c.if-is_blank.false))
