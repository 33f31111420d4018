use Rattle.repeats.specs.Copied.{Copies}
use Rattle.repeats.proofs.copy.Given as goal

abbrev pub invariant-loop-i : goal.invariant-loop-i
invariant-loop-i l = Copies l.initial.buffer l.from l.to l.i l.buffer
