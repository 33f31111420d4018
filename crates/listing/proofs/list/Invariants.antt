-- A listing ends: at each turn of its loop fewer rows are left.
use Prim.Native.Nat.{◌≤◌}
use Rattle.listing.proofs.list.Given as goal

abbrev pub invariant-loop-going : goal.invariant-loop-going
invariant-loop-going g l = l.p.left ≤ l.all

abbrev pub decreases-loop-going : goal.decreases-loop-going
decreases-loop-going g l = l.p.left
