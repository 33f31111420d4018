-- `event` meets its contract: the test on the quote and the count picks the same reader as the definition's.
use Rattle.tokens.specs.Written.{bytes}
use Rattle.timing.proofs.EventReading.{event_full, event_more}
use Rattle.timing.proofs.event.Goals as goal

pub returns-then-is-times : goal.returns-then-is-times
unfolding bytes
returns-then-is-times c = λ s a. event_full c.is.ensures a c.if-is-times.true c.due-d.ensures c.refuse_if-cursor.ensures

pub returns : goal.returns
unfolding bytes
returns c = λ s a. event_more c.is.ensures a c.if-is-times.false (c.one_event.ensures s a)
