use Prim.Native.Nat.{◌+◌, ◌-◌, ◌≤◌}
use mathlib.Core.Path.{◌≡◌}
use lib.ListN.{length}
use Rattle.meaning.specs.Meaning.{Meaning}
use Rattle.plays.specs.Plays.{ground_of}
use Rattle.flats.specs.Meant.{Meant}
use Rattle.flats.proofs.Running.{Before}
use Rattle.flats.proofs.patterns_of.Given as goal

abbrev pub invariant-loop-k : goal.invariant-loop-k
invariant-loop-k l =
    (l.k ≤ l.listed) × (l.part.pattern ≤ l.first + l.k) × (length l.page ≡ length l.initial.page) × (length l.hand ≡ length l.initial.hand) × (length l.buffer ≡ length l.initial.buffer)
    × ((m : Meaning) (h : Meant (ground_of l.ground) l.list l.listed l.patterns l.size m) → Before h l.initial.page l.page l.part l.first l.k)

abbrev pub decreases-loop-k : goal.decreases-loop-k
decreases-loop-k l = l.listed - l.k
