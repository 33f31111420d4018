use Rattle.pens.specs.Pens.{Writes}
use Rattle.folds.proofs.Laws.{signals_to}
use Rattle.folds.proofs.signals.Given as goal

abbrev pub invariant-loop-i : goal.invariant-loop-i
invariant-loop-i l = Writes l.initial.page l.initial.p (signals_to l.text l.places l.i) l.page l.p
