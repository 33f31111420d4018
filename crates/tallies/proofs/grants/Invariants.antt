use Prim.Native.Nat.{ℕ, ◌<◌}
use mathlib.Core.Path.{◌≡◌}
use mathlib.Core.Bool.{false}
use mathlib.Core.Option.{none}
use Rattle.tallies.specs.Rows.{sum_at}
use Rattle.tallies.proofs.grants.Given as goal

abbrev pub invariant-loop-s : goal.invariant-loop-s
invariant-loop-s l = ((i : ℕ) → i < l.s → (sum_at l.sums l.r).under i none ≡ false)
