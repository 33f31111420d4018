-- `pack_report` meets its contract: a packed refusal is small.
use Prim.Native.Nat.{ℕ, ◌+◌}
use native.Mathlib.Omega.{arith}
use mathlib.Core.Path.{ap}
use Rattle.stil.proofs.Telling.{packed_few}
use Rattle.stil.proofs.pack_report.Goals as goal

pub overflow_add-result : goal.overflow_add-result
overflow_add-result c = omega (arith, packed_few c.args.refusal.no c.args.refusal.place (omega arith), c.pack.ensures)

pub returns : goal.returns
returns c = ap (λ (n : ℕ). 4_294_967_296 + n) c.pack.ensures
