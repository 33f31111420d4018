use Prim.Native.Nat.{◌-◌}
use mathlib.Core.Path.{◌≡◌}
use lib.ListN.{length}
use Rattle.saving.specs.Saving.{spaced}
use Rattle.saving.proofs.overwrite.Given as goal

abbrev pub invariant-loop-i : goal.invariant-loop-i
invariant-loop-i l = (length l.text ≡ length l.initial.text) × (spaced l.first l.behind l.initial.text ≡ spaced l.i l.behind l.text)

abbrev pub decreases-loop-i : goal.decreases-loop-i
decreases-loop-i l = l.behind - l.i
