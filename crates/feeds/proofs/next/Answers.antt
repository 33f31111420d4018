-- The first byte of the word; without one there is no character.
use Rattle.feeds.proofs.Passing.{takes_one, takes_none}
use Rattle.tokens.proofs.Bools.{both_below}
use Rattle.feeds.proofs.next.Goals as goal

pub bounds-text-at : goal.bounds-text-at
bounds-text-at c = (both_below _ _ _ c.if-at-here.true).1

pub returns-then-at-here : goal.returns-then-at-here
returns-then-at-here c =
    takes_one c.at_word-here.ensures (both_below _ _ _ c.if-at-here.true).0 c.behind_one-rest.ensures

pub returns : goal.returns
returns c = takes_none c.at_word-here.ensures c.if-at-here.false
