use Rattle.tallies.proofs.Rows.{Assigning}
use Rattle.tallies.proofs.assign.Given as goal

abbrev pub invariant-loop-s : goal.invariant-loop-s
invariant-loop-s l = Assigning l.r l.given l.s l.initial.sums l.sums
