use Rattle.tallies.proofs.Calling.{Entering}
use Rattle.tallies.proofs.in_place.Given as goal

abbrev pub invariant-loop-s : goal.invariant-loop-s
invariant-loop-s l = Entering l.text l.waves l.given l.args l.to l.from l.s l.initial.sums l.sums
