use mathlib.Core.Path.{◌≡◌}
use mathlib.Core.Bool.{false}
use Rattle.arguments.specs.Supplied.{Idle}
use Rattle.arguments.proofs.idle.Given as goal

abbrev pub invariant-loop-k : goal.invariant-loop-k
invariant-loop-k l = l.busy ≡ false → Idle l.row l.given l.from l.k
