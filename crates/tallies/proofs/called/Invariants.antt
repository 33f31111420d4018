use Rattle.tallies.proofs.Calling.{Calling}
use Rattle.tallies.proofs.called.Given as goal

abbrev pub invariant-loop-s : goal.invariant-loop-s
invariant-loop-s l = Calling l.text l.waves l.given l.args l.to l.from l.s l.initial.sums l.sums
