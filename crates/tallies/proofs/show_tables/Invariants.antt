use Rattle.tallies.proofs.Showing.{Showing}
use Rattle.tallies.proofs.show_tables.Given as goal

abbrev pub invariant-loop-t : goal.invariant-loop-t
invariant-loop-t l = Showing l.waves l.to l.from l.place l.s l.x l.t l.initial.sums l.sums
