use Rattle.pins.proofs.Rows.{Leaving}
use Rattle.pins.proofs.leave.Given as goal

abbrev pub invariant-loop-s : goal.invariant-loop-s
invariant-loop-s l = Leaving l.at l.s l.initial.values l.values
