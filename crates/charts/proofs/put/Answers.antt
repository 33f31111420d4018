-- `put` meets its contract. The invariant: the first i times stand at the front of their buffer as they are told.
use mathlib.Core.Path.{ap}
use mathlib.Core.List.{List, ◌++◌}
use Prim.Native.Nat.{ℕ}
use lib.ListN.{drop}
use native.Mathlib.Omega.{arith}
use Rattle.charts.proofs.Fronts.{fronted_none}
use Rattle.charts.proofs.Telling.{told_more, told_all_lem}
use Rattle.charts.proofs.put.Goals as goal

pub loop-i-init : goal.loop-i-init
loop-i-init c = fronted_none

pub loop-i-preserved : goal.loop-i-preserved
loop-i-preserved c = told_more c.args.ts.now c.loop-i.invariant (omega arith) c.told.ensures

pub returns : goal.returns
returns c = (told_all_lem c.args.ts.now c.loop-i.invariant c.args.n (omega arith) (omega arith) (omega arith), ap (λ (l : List ℕ). l ++ drop c.args.n c.args.letters.now) c.copy_from_slice.ensures.after)
