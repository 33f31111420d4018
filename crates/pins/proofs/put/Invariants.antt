use Prim.Native.Nat.{◌-◌, ◌≤◌}
use Rattle.pins.proofs.Putting.{Put}
use Rattle.pins.proofs.put.Given as goal

abbrev pub invariant-loop-s : goal.invariant-loop-s
invariant-loop-s l = (l.s ≤ l.signals) × Put l.text l.given l.initial.values l.initial.feeds l.level l.s l.values l.feeds

abbrev pub decreases-loop-s : goal.decreases-loop-s
decreases-loop-s l = l.signals - l.s
