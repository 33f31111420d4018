use Rattle.words.specs.Packed.{ZerosFrom}
use Rattle.words.proofs.zeros_from.Given as goal

abbrev pub invariant-loop-n : goal.invariant-loop-n
invariant-loop-n l = ZerosFrom l.w l.n

abbrev pub decreases-loop-n : goal.decreases-loop-n
decreases-loop-n l = l.n
