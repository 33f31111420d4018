-- Each turn of the loop is a turn of the V.
use native.Mathlib.Omega.{arith}
use mathlib.Core.Path.{◌∙◌}
use Rattle.pins.proofs.Callers.{others_then, roomy_kept}
use Rattle.crossings.proofs.Turning.{after_none, after_more, after_fails, after_all}
use Rattle.crossings.proofs.Passing.{long_then, long_ample}
use Rattle.crossings.proofs.vectors.Goals as goal

pub loop-init : goal.loop-init
loop-init c = after_none

pub put-requires : goal.put-requires
put-requires c = (roomy_kept c.requires.0 c.loop.invariant.others, c.requires.1)

pub cycle-requires : goal.cycle-requires
cycle-requires c =
    let room = roomy_kept c.requires.0 (others_then c.loop.invariant.others c.put.ensures.0) in
    (c.requires.2, room.few, omega (arith, room.values_long), long_ample c.loop.invariant.long c.requires.3, c.requires.4)

pub shape_of-values-then-cycle : goal.shape_of-values-then-cycle
shape_of-values-then-cycle c = c.put.ensures.0.values_long ∙ c.loop.invariant.others.values_long

pub shape_of-feeds-then-cycle : goal.shape_of-feeds-then-cycle
shape_of-feeds-then-cycle c = c.put.ensures.0.feeds_long ∙ c.loop.invariant.others.feeds_long

pub returns-then-cycle : goal.returns-then-cycle
returns-then-cycle c = (others_then c.loop.invariant.others c.put.ensures.0, long_then c.loop.invariant.long c.cycle.ensures.0, after_fails c.loop.invariant (omega arith) c.put.ensures.0 c.put.ensures.1 c.cycle.ensures.0 c.cycle.ensures.1 c.if-cycle.true)

pub loop-preserved : goal.loop-preserved
loop-preserved c = after_more c.loop.invariant (omega arith) c.put.ensures.0 c.put.ensures.1 c.cycle.ensures.0 c.cycle.ensures.1 c.if-cycle.false

pub returns : goal.returns
returns c = (c.loop.invariant.others, c.loop.invariant.long, after_all c.loop.invariant (omega arith))
