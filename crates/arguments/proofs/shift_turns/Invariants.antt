use Prim.Native.Nat.{ℕ, ◌<◌}
use mathlib.Core.Path.{◌≡◌}
use mathlib.Core.Bool.{false}
use Rattle.meaning.specs.Lists.{has}
use Rattle.meaning.specs.Body.{Body, shifting}
use Rattle.measures.specs.Uses.{Uses}
use Rattle.arguments.proofs.shift_turns.Given as goal

abbrev pub invariant-loop-s : goal.invariant-loop-s
invariant-loop-s l = (b : Body) → Uses b l.row → (k : ℕ) → k < l.s → has k (shifting b) ≡ false
