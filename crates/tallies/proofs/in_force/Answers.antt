-- Behind no table: the row's, or the one before.
use Prim.Native.Nat.{ℕ}
use native.Mathlib.Omega.{arith}
use mathlib.Core.Path.{◌≡◌, refl, ap, ◌∙◌}
use mathlib.Core.Option.{Option, none, some}
use Rattle.pins.proofs.Callers.{table_none}
use Rattle.sums.specs.Sums.{or_table}
use Rattle.tallies.proofs.in_force.Goals as goal

behind_none : (t : Option ℕ) → or_table t none ≡ t
unfolding or_table
behind_none none = refl
behind_none (some k) = refl

pub returns : goal.returns
returns c = (c.table_behind.ensures.1 (omega arith), c.table_behind.ensures.0 ∙ ap (or_table _) (table_none 8 (omega arith)) ∙ behind_none _)
