use Prim.Native.Nat.{◌-◌, ◌≤◌}
use mathlib.Core.Path.{◌≡◌}
use lib.ListN.{length}
use Rattle.reels.proofs.shown.rows.Given as goal

abbrev pub invariant-loop-done : goal.invariant-loop-done
invariant-loop-done g l = (length l.page ≡ 1048576) × (l.done ≤ l.due)

abbrev pub decreases-loop-done : goal.decreases-loop-done
decreases-loop-done g l = l.due - l.done
