-- The word that is there, or the next one.
use Rattle.feeds.proofs.Passing.{word_here, word_next}
use Rattle.feeds.proofs.at_word.Goals as goal

pub returns-then-feed : goal.returns-then-feed
returns-then-feed c = word_here c.if-feed.true

pub returns : goal.returns
returns c = word_next c.if-feed.false c.next_word.ensures
