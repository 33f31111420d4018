use Rattle.tallies.proofs.Showing.{Cycling}
use Rattle.tallies.proofs.cycle.Given as goal

abbrev pub invariant-loop-s : goal.invariant-loop-s
invariant-loop-s l = Cycling l.waves l.r l.t l.s l.initial.sums l.sums
