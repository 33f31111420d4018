use lib.ListN.{take}
use Rattle.timing.specs.Marks.{Marked}
use Rattle.timing.proofs.mark_all.Given as goal

abbrev pub invariant-loop-s : goal.invariant-loop-s
invariant-loop-s l = Marked l.initial.table (take l.s-index l.sigs) l.w l.table
