use Prim.Native.Nat.{◌-◌, ◌≤◌}
use mathlib.Core.Path.{◌≡◌}
use lib.ListN.{length}
use Rattle.plays.specs.Plays.{ground_of}
use Rattle.flats.specs.Meant.{Shows}
use Rattle.flats.proofs.pattern.Given as goal

abbrev pub invariant-loop-done : goal.invariant-loop-done
invariant-loop-done l = (l.done ≤ l.count) × Shows (ground_of l.ground) l.list l.listed l.patterns l.size l.first l.done l.initial.page l.initial.f l.initial.hand l.page l.f l.hand × (length l.buffer ≡ length l.initial.buffer)

abbrev pub decreases-loop-done : goal.decreases-loop-done
decreases-loop-done l = l.count - l.done
