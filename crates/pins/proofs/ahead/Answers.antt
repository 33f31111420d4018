-- Each turn takes the signal before.
use native.Mathlib.Omega.{arith}
use Rattle.pins.proofs.Advancing.{least_fed, least_other, least_all}
use Rattle.pins.proofs.ahead.Goals as goal

pub loop-s-preserved-then-given-s-eq-MARK : goal.loop-s-preserved-then-given-s-eq-MARK
loop-s-preserved-then-given-s-eq-MARK c = least_fed c.loop-s.invariant (omega arith) c.feed_at.ensures c.having-k.ensures

pub loop-s-preserved : goal.loop-s-preserved
loop-s-preserved c = least_other c.loop-s.invariant (omega arith) c.if-given-s-eq-MARK.false

pub returns : goal.returns
returns c = least_all c.loop-s.invariant (omega arith)
