use Rattle.pens.specs.Pens.{Writes}
use Rattle.folds.proofs.Laws.{listed_to}
use Rattle.folds.proofs.burst.Given as goal

abbrev pub invariant-loop-i : goal.invariant-loop-i
invariant-loop-i l = Writes l.initial.page l.initial.p (listed_to l.i) l.page l.p
