-- Each turn takes the next signal.
use native.Mathlib.Omega.{arith}
use Rattle.pins.proofs.Rows.{leaving_next, leaving_all}
use Rattle.pins.proofs.leave.Goals as goal

pub loop-s-preserved : goal.loop-s-preserved
loop-s-preserved c = leaving_next c.loop-s.invariant (omega arith) (omega (arith, c.loop-s.invariant.long))

pub returns : goal.returns
returns c = leaving_all (omega arith) c.loop-s.invariant
