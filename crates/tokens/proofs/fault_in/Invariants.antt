use Prim.Native.Nat.{◌-◌, ◌≤◌}
use mathlib.Core.Path.{◌≡◌}
use lib.ListN.{length}
use Rattle.tokens.specs.Refusals.{text_most}
use Rattle.tokens.specs.Tokens.{fault_of}
use Rattle.tokens.proofs.Faults.{fault_from}
use Rattle.tokens.proofs.fault_in.Given as goal

abbrev pub invariant-loop-i : goal.invariant-loop-i
invariant-loop-i l = (length l.text ≤ text_most) × (fault_of l.text ≡ fault_from l.text l.i)

abbrev pub decreases-loop-i : goal.decreases-loop-i
decreases-loop-i l = length l.text - l.i
