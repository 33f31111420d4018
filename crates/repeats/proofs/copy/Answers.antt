-- `copy` meets its contract: the bytes that are read lie before those that are written.
use native.Mathlib.Omega.{arith}
use Rattle.repeats.proofs.Copying.{copies_more, copies_all}
use Rattle.repeats.proofs.copy.Goals as goal

pub loop-i-preserved : goal.loop-i-preserved
loop-i-preserved c = copies_more c.loop-i.invariant (omega arith) (omega arith)

pub returns : goal.returns
returns c = copies_all c.loop-i.invariant c.args.count (omega arith)
