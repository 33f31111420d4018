use Prim.Native.Nat.{◌-◌, ◌≤◌, ◌<◌}
use Rattle.repeats.specs.Copied.{Extends}
use Rattle.repeats.proofs.Copying.{Whole}
use Rattle.repeats.proofs.extend.Given as goal

abbrev pub invariant-loop-done : goal.invariant-loop-done
invariant-loop-done l = (l.done ≤ l.count) × Extends l.initial.buffer l.at l.step l.done l.buffer × (l.done < l.count → Whole l.at l.step l.done l.buffer)

abbrev pub decreases-loop-done : goal.decreases-loop-done
decreases-loop-done l = l.count - l.done
