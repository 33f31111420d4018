use Prim.Native.Nat.{◌+◌, ◌≤◌}
use mathlib.Core.List.{[], ◌∷◌}
use lib.ListN.{length}
use Rattle.words.proofs.Loops.{room}
use Rattle.reports.proofs.Counting.{Kept}
use Rattle.reports.proofs.count_offsets.Given as goal

abbrev pub invariant-loop-at : goal.invariant-loop-at
invariant-loop-at l =
    Kept l.report (59 ∷ []) l.initial.cursor l.left l.cursor l.count l.outside × (l.count + room l.report l.cursor ≤ length l.report + 2)

abbrev pub decreases-loop-at : goal.decreases-loop-at
decreases-loop-at l = room l.report l.cursor
