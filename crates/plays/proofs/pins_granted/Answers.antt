-- Each turn asks for the next signal.
use native.Mathlib.Omega.{arith}
use mathlib.Core.Path.{refl}
use Rattle.tokens.proofs.Bools.{true_false}
use Rattle.plays.proofs.Marks.{pins_none, pins_next}
use Rattle.plays.proofs.pins_granted.Goals as goal

pub loop-s-init : goal.loop-s-init
loop-s-init c =
    pins_none

pub returns-then-not-pin_granted : goal.returns-then-not-pin_granted
returns-then-not-pin_granted c =
    λ e. true_false e refl

pub loop-s-preserved : goal.loop-s-preserved
loop-s-preserved c = pins_next c.loop-s.invariant (rw c.marks.ensures.0 at (c.pin_granted.ensures c.if-not-pin_granted.false))

pub returns : goal.returns
returns c =
    λ e tabs w i h. c.loop-s.invariant.each tabs w i (omega arith)
