use Rattle.crossings.specs.Rows.{cycle_in}
use Rattle.crossings.proofs.Storing.{Noting}
use Rattle.crossings.proofs.note.Given as goal

abbrev pub invariant-loop-i : goal.invariant-loop-i
invariant-loop-i l = Noting l.signals l.i l.initial.seen l.seen (cycle_in l.signals l.place l.table l.values 0)
