use Prim.Native.Nat.{ℕ, ◌<◌}
use Rattle.timing.specs.Marks.{table_size}
use Rattle.noted.specs.Noted.{Covered}
use Rattle.noted.proofs.fine.Given as goal

abbrev pub invariant-loop-k : goal.invariant-loop-k
invariant-loop-k l = (j : ℕ) → j < l.k → Covered l.used l.waves j table_size
