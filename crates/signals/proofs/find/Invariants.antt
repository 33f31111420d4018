use Rattle.signals.proofs.Chains.{Walked}
use Rattle.signals.proofs.find.Given as goal

abbrev pub invariant-loop-k : goal.invariant-loop-k
invariant-loop-k l = Walked l.text l.places l.w l.count l.found l.k

abbrev pub decreases-loop-k : goal.decreases-loop-k
decreases-loop-k l = l.k
