use Prim.Native.Nat.{ℕ}
use Rattle.meaning.specs.Timing.{Tables}
use Rattle.crossings.specs.Rows.{Timed, clock_of}
use Rattle.crossings.proofs.Ordering.{Looked}
use Rattle.crossings.proofs.in_order.Given as goal

abbrev pub invariant-loop-s : goal.invariant-loop-s
invariant-loop-s l = (tabs : Tables) → Timed tabs (clock_of l.times) → (p q : ℕ) → Looked tabs l.signals p l.j l.first l.a q l.k l.second l.b l.s
