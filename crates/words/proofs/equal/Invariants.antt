use Prim.Native.Nat.{◌≤◌}
use mathlib.Core.Path.{◌≡◌}
use lib.ListN.{length, take}
use Rattle.tokens.specs.Written.{same}
use Rattle.words.proofs.equal.Given as goal

abbrev pub invariant-loop-i : goal.invariant-loop-i
invariant-loop-i l = (l.i ≤ length l.w) × (same l.w l.v ≡ same (take l.i l.w) (take l.i l.v))

abbrev pub decreases-loop-i : goal.decreases-loop-i
decreases-loop-i l = l.i
