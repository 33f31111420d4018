use mathlib.Core.Path.{◌≡◌}
use Prim.Native.Nat.{◌≤◌}
use mathlib.Core.List.{◌++◌}
use lib.ListN.{length, take, drop}
use Rattle.meaning.specs.Bounds.{signals_most}
use Rattle.meaning.specs.Lists.{without}
use Rattle.sets.proofs.without.Given as goal

abbrev pub invariant-loop-s : goal.invariant-loop-s
invariant-loop-s l =
    (length l.v ≡ signals_most) × (l.k ≤ l.s-index) × (take l.k l.v ++ without (drop l.s-index l.s-items) l.taken ≡ without l.s-items l.taken)
