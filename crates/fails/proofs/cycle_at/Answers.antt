-- `cycle_at` meets its contract.
use Rattle.fails.proofs.Writing.{too_far, near}
use native.Mathlib.Omega.{arith}
use Rattle.fails.proofs.cycle_at.Goals as goal

-- src/lib.rt:261:9
pub returns-then-from-n : goal.returns-then-from-n
returns-then-from-n c = too_far c.args.from c.args.n c.if-from-n.true

-- src/lib.rt:263:5
pub overflow_add-result : goal.overflow_add-result
overflow_add-result c = record { fits = omega (arith, near c.args.from c.args.n c.if-from-n.false) }
