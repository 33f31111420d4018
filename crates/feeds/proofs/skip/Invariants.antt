use Rattle.tokens.specs.Tokens.{toks, left}
use Rattle.feeds.proofs.Passing.{Skipping}
use Rattle.feeds.proofs.skip.Given as goal

abbrev pub invariant-loop-more : goal.invariant-loop-more
invariant-loop-more l = Skipping l.text l.initial.here l.initial.more l.here l.more

abbrev pub decreases-loop-more : goal.decreases-loop-more
decreases-loop-more l = left (toks l.text l.here.end)
