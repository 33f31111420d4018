-- Each turn takes the next signal.
use native.Mathlib.Omega.{arith}
use Rattle.pins.proofs.Turns.{done_next}
use Rattle.pins.proofs.Rows.{back_all}
use Rattle.pins.proofs.come_back.Goals as goal

pub loop-s-preserved : goal.loop-s-preserved
loop-s-preserved c =
    let x = c.loop-s.invariant in
    done_next x _ (omega (arith, x.long)) (x.rest _ (omega arith))

pub returns : goal.returns
returns c = back_all (omega arith) c.loop-s.invariant
