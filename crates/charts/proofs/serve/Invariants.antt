use Prim.Native.Nat.{◌-◌}
use lib.ListN.{length}
use Rattle.charts.proofs.Turns.{Serving}
use Rattle.charts.proofs.serve.Given as goal

abbrev pub invariant-loop-at : goal.invariant-loop-at
invariant-loop-at l = Serving l.text l.asked l.initial.times l.initial.letters l.initial.counts l.times l.letters l.counts l.at l.served l.events

abbrev pub decreases-loop-at : goal.decreases-loop-at
decreases-loop-at l = length l.asked - l.at
