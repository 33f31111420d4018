use Rattle.data.proofs.Over.{Wrote}
use Rattle.data.proofs.copy.Given as goal

abbrev pub invariant-loop-i : goal.invariant-loop-i
invariant-loop-i l = Wrote l.initial.buffer l.n l.w l.i l.buffer
