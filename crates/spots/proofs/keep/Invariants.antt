use mathlib.Core.List.{[], ◌∷◌}
use lib.ListN.{take}
use Rattle.spots.specs.Spots.{Stored}
use Rattle.spots.proofs.keep.Given as goal

abbrev pub invariant-loop-b : goal.invariant-loop-b
invariant-loop-b l = Stored l.initial.spots (l.s ∷ []) (take l.b-index l.w) l.v l.spots
