use Rattle.crossings.specs.Rows.{Copied}
use Rattle.crossings.proofs.copy_pins.Given as goal

abbrev pub invariant-loop-s : goal.invariant-loop-s
invariant-loop-s l = Copied l.s l.values l.at l.initial.shown l.shown
