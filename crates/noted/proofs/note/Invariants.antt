use Rattle.noted.proofs.Marking.{Noting}
use Rattle.noted.proofs.note.Given as goal

abbrev pub invariant-loop-s : goal.invariant-loop-s
invariant-loop-s l = Noting l.given l.s l.initial.used l.used
