use lib.ListN.{take}
use Rattle.spots.specs.Spots.{Stored}
use Rattle.spots.proofs.keep_all.Given as goal

abbrev pub invariant-loop-s : goal.invariant-loop-s
invariant-loop-s l = Stored l.initial.spots (take l.s-index l.s-items) l.w l.v l.spots
