-- Each turn takes the next word, in which those that were seen are shown already.
use Rattle.tallies.proofs.Feeding.{giving_none, giving_word, giving_all}
use Rattle.tallies.proofs.feed.Goals as goal

pub loop-seen-init : goal.loop-seen-init
loop-seen-init c = giving_none

pub returns-then-word : goal.returns-then-word
returns-then-word c = let y = c.loop-seen.invariant in (y.more, giving_all y c.next_word-word.ensures c.if-word.true)

pub loop-seen-preserved : goal.loop-seen-preserved
loop-seen-preserved c =
    let p = c.requires in
    let fed = c.feed_word-last.ensures in
    giving_word c.loop-seen.invariant c.next_word-word.ensures c.bytes_of-w.ensures p.2 p.4 fed.0 fed.1 fed.2
