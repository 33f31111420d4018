-- `put` meets its contract. The invariant: the first i of the bytes stand in the page, from the place on.
use native.Mathlib.Omega.{arith}
use Rattle.pages.proofs.Turns.{copied_more, copied_all}
use Rattle.pages.proofs.put.Goals as goal

pub loop-i-preserved : goal.loop-i-preserved
loop-i-preserved c = copied_more c.loop-i.invariant (omega arith) (omega arith)

pub returns : goal.returns
returns c = copied_all c.loop-i.invariant (omega arith)
