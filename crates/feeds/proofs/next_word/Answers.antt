-- The token ahead says which: the end of the DATA, a repeat, or a word.
use Rattle.tokens.specs.Written.{bytes}
use Rattle.feeds.proofs.Ahead.{next_none, next_repeat, next_plain}
use Rattle.feeds.proofs.next_word.Goals as goal

pub returns-then-is : goal.returns-then-is
unfolding bytes
returns-then-is c =
    next_none c.cursor_at-c.ensures c.is.ensures c.if-is.true

pub returns-then-is-2 : goal.returns-then-is-2
unfolding bytes
returns-then-is-2 c =
    next_repeat c.cursor_at-c.ensures c.is.ensures c.if-is.false c.is-2.ensures
    c.if-is-2.true c.step.ensures c.repeat.ensures

pub returns : goal.returns
unfolding bytes
returns c =
    next_plain c.cursor_at-c.ensures c.is.ensures c.if-is.false c.is-2.ensures c.if-is-2.false
