-- `signed` meets its contract: the token ahead is a `-` or is not.
use Rattle.tokens.specs.Written.{bytes}
use Rattle.words.proofs.Signs.{minus_counts, plus_counts}
use Rattle.words.proofs.signed.Goals as goal

pub returns-then-is : goal.returns-then-is
unfolding bytes
returns-then-is c = minus_counts c.is.ensures c.if-is.true c.due-d.ensures c.time_of-t.ensures

pub returns : goal.returns
unfolding bytes
returns c = plus_counts c.is.ensures c.if-is.false c.time_of-t-2.ensures
