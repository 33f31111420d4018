-- `changes` meets its contract: by where the intake stands, a line of the definition's table.
use mathlib.Core.Path.{sym, ◌∙◌}
use Rattle.intake.proofs.Bytes.{step_slash, step_line, step_block, step_star, step_outside}
use Rattle.intake.proofs.changes.Goals as goal

pub returns-then-it-eq-SLASH : goal.returns-then-it-eq-SLASH
returns-then-it-eq-SLASH c =
    let args = c.args in
    c.behind_slash.ensures ∙ sym (step_slash args.it args.b c.if-it-eq-SLASH.true)

pub returns-then-it-eq-LINE : goal.returns-then-it-eq-LINE
returns-then-it-eq-LINE c =
    let args = c.args in
    c.in_line.ensures ∙ sym (step_line args.it args.b c.if-it-eq-LINE.true)

pub returns-then-it-eq-BLOCK : goal.returns-then-it-eq-BLOCK
returns-then-it-eq-BLOCK c =
    let args = c.args in
    c.in_block.ensures ∙ sym (step_block args.it args.b c.if-it-eq-BLOCK.true)

pub returns-then-it-eq-STAR : goal.returns-then-it-eq-STAR
returns-then-it-eq-STAR c =
    let args = c.args in
    c.behind_star.ensures ∙ sym (step_star args.it args.b c.if-it-eq-STAR.true)

pub returns : goal.returns
returns c =
    let args = c.args in
    c.outside.ensures
    ∙ sym
    (step_outside args.it args.b c.if-it-eq-SLASH.false
    c.if-it-eq-LINE.false c.if-it-eq-BLOCK.false c.if-it-eq-STAR.false)
