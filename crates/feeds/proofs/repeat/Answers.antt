-- Behind how often it is said stands the word.
use borrow.Author.Tests.{eq-eqb, ne_eqb}
use Rattle.feeds.proofs.Ahead.{repeat_read, repeat_none}
use Rattle.feeds.proofs.repeat.Goals as goal

pub returns-then-d-ne0 : goal.returns-then-d-ne0
returns-then-d-ne0 c =
    repeat_none c.bytes_of.ensures c.step-d.ensures c.times-left.ensures (ne_eqb _ _ c.if-d-ne0.true)

pub returns : goal.returns
returns c =
    repeat_read c.bytes_of.ensures c.step-d.ensures c.times-left.ensures (eq-eqb _ _ c.if-d-ne0.false)
