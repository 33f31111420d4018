use Rattle.tallies.specs.Rows.{sum_at}
use Rattle.plays.proofs.Marks.{Summing}
use Rattle.plays.proofs.sum_marks.Given as goal

abbrev pub invariant-loop-t : goal.invariant-loop-t
invariant-loop-t l =
    Summing (sum_at l.sums l.r) l.assigned l.s l.table l.m l.t
