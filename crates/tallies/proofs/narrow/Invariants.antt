use mathlib.Core.Path.{◌≡◌}
use mathlib.Core.Bool.{true}
use Rattle.tallies.specs.Rows.{sum_at}
use Rattle.tallies.proofs.Narrowed.{Narrowed}
use Rattle.tallies.proofs.narrow.Given as goal

abbrev pub invariant-loop-k : goal.invariant-loop-k
invariant-loop-k l = Narrowed (λ j. (sum_at l.initial.sums l.from).fine j ≡ true) l.to l.k l.initial.sums l.sums
