use Prim.Native.Nat.{◌-◌, ◌/◌, ◌%◌, ◌^◌, ◌≤◌}
use mathlib.Core.Path.{◌≡◌}
use Rattle.meaning.specs.Bounds.{tables_most}
use Rattle.plays.proofs.Marks.{GrantedTo}
use Rattle.plays.proofs.pin_granted.Given as goal

abbrev pub invariant-loop-rest : goal.invariant-loop-rest
invariant-loop-rest l =
    (l.t ≤ tables_most) × (l.rest ≡ l.m % 256 / 2 ^ l.t) × GrantedTo l.waves l.m l.s l.x l.t

abbrev pub decreases-loop-rest : goal.decreases-loop-rest
decreases-loop-rest l =
    tables_most - l.t
