-- Each turn copies the next pin.
use native.Mathlib.Omega.{arith}
use Rattle.crossings.proofs.Storing.{copied_next, copied_all}
use Rattle.crossings.proofs.copy_pins.Goals as goal

pub loop-s-preserved : goal.loop-s-preserved
loop-s-preserved c = copied_next c.loop-s.invariant (omega arith)

pub returns : goal.returns
returns c = copied_all (omega arith) c.loop-s.invariant (omega arith)
