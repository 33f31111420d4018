-- `is_name` meets its contract: the four tests of a name; the reserved words all begin with a capital letter.
use mathlib.Core.Path.{sym, ◌∙◌}
use Rattle.words.proofs.Words.{name_none, name_off, name_capital, name_small}
use Rattle.words.proofs.is_name.Goals as goal

pub returns-then-n-eq0 : goal.returns-then-n-eq0
returns-then-n-eq0 c = sym (name_none _ c.if-n-eq0.true)

pub returns-then-n-holds : goal.returns-then-n-holds
returns-then-n-holds c =
    name_off c.args.w.now c.if-n-eq0.false (rw (← c.holds.ensures) c.if-n-holds.true)

pub returns-then-is_capital : goal.returns-then-is_capital
returns-then-is_capital c =
    rw c.reserved.ensures
    (name_capital c.args.w.now c.if-n-eq0.false
    (rw (← c.holds.ensures) c.if-n-holds.false)
    (sym c.is_capital.ensures ∙ c.if-is_capital.true))

pub returns : goal.returns
returns c =
    rw c.is_digit.ensures
    (name_small c.args.w.now c.if-n-eq0.false
    (rw (← c.holds.ensures) c.if-n-holds.false)
    (sym c.is_capital.ensures ∙ c.if-is_capital.false))
