use Rattle.spans.proofs.Adding.{Through}
use Rattle.spans.proofs.read.Given as goal

abbrev pub invariant-loop-i : goal.invariant-loop-i
invariant-loop-i l = Through l.times l.letters l.n l.i l.x
