-- One test.
use mathlib.Core.Path.{refl}
use Rattle.tokens.proofs.Bools.{true_false}
use Rattle.memos.proofs.marked_if.Goals as goal

pub returns-then-is : goal.returns-then-is
returns-then-is c =
    (c.with_mark.ensures.few, λ e. c.with_mark.ensures, λ e. true_false c.if-is.true e)

pub returns : goal.returns
returns c =
    (c.requires.0, λ e. true_false e c.if-is.false, λ e. refl)
