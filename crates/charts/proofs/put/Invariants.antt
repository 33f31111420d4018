use Rattle.charts.specs.Serving.{told_all}
use Rattle.charts.proofs.Fronts.{Fronted}
use Rattle.charts.proofs.put.Given as goal

abbrev pub invariant-loop-i : goal.invariant-loop-i
invariant-loop-i l = Fronted (told_all l.ts) l.initial.times l.i l.times
