-- `sign` meets its contract: each of the two tokens has its law.
use mathlib.Core.Bool.{false}
use Rattle.tokens.specs.Written.{bytes}
use Rattle.meaning.specs.Groups.{sign as sign_due}
use Rattle.words.proofs.Flow.{given}
use Rattle.words.proofs.Choice.{chosen, passed_over}
use Rattle.signals.proofs.Joining.{only_choice}
use Rattle.signals.proofs.sign.Goals as goal

pub returns-then-is : goal.returns-then-is
unfolding sign_due bytes
returns-then-is c =
    let is' = c.is in
    let if1' = c.if-is in
    chosen "+" _ _ is'.ensures if1'.true c.step-cursor.ensures given

pub returns : goal.returns
unfolding sign_due bytes
returns c =
    let is' = c.is in
    let if1' = c.if-is in
    passed_over "+" _ _ is'.ensures if1'.false (only_choice "-" false c.due-cursor.ensures)
