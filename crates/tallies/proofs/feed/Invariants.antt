use Rattle.tokens.specs.Tokens.{toks, left}
use Rattle.tallies.proofs.Feeding.{Giving}
use Rattle.tallies.proofs.feed.Given as goal

abbrev pub invariant-loop-seen : goal.invariant-loop-seen
invariant-loop-seen l = Giving l.text l.waves l.place l.to l.from l.s l.at l.last l.seen l.initial.sums l.sums

abbrev pub decreases-loop-seen : goal.decreases-loop-seen
decreases-loop-seen l = left (toks l.text l.at)
