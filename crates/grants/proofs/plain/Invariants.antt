use Prim.Native.Nat.{ℕ, ◌<◌}
use Rattle.grants.specs.Grants.{ListedFirst}
use Rattle.grants.proofs.plain.Given as goal

abbrev pub invariant-loop-k : goal.invariant-loop-k
invariant-loop-k l = (j : ℕ) → j < l.k → ListedFirst l.text l.book l.list l.patterns j
