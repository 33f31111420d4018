use Rattle.intake.proofs.Turns.{Filling}
use Rattle.intake.proofs.fill.Given as goal

abbrev pub invariant-loop-b : goal.invariant-loop-b
invariant-loop-b l = Filling l.chunk l.initial.store l.initial.here l.store l.here l.b-index
