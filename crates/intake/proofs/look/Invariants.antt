use Rattle.intake.proofs.Turns.{Looking}
use Rattle.intake.proofs.look.Given as goal

abbrev pub invariant-loop-b : goal.invariant-loop-b
invariant-loop-b l = Looking l.room l.chunk l.initial.here l.here l.b-index
