use Prim.Native.Nat.{ℕ, ◌+◌, ◌-◌}
use mathlib.Core.Path.{◌≡◌}
use Rattle.pins.proofs.Advancing.{Far}
use Rattle.pins.proofs.having.Given as goal

abbrev pub invariant-loop-n : goal.invariant-loop-n
invariant-loop-n l = (d : ℕ) × (l.n ≡ l.initial.n + d) × Far l.text l.initial.here l.waves l.table l.s (l.most - l.initial.n) d l.here

abbrev pub decreases-loop-n : goal.decreases-loop-n
decreases-loop-n l = l.most - l.n
