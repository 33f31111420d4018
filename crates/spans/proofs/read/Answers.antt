-- `read` meets its contract. The invariant: the numbers are those of the events up to number i.
use native.Mathlib.Omega.{arith}
use mathlib.Core.Path.{refl}
use Rattle.spots.proofs.Joined.{joined}
use Rattle.spans.proofs.Adding.{through_more, through_all}
use Rattle.spans.proofs.read.Goals as goal

pub loop-i-init : goal.loop-i-init
unfolding joined
loop-i-init c = λ t. c.nothing-x.ensures

pub offset_bounds-times-i : goal.offset_bounds-times-i
offset_bounds-times-i c = let r = c.read-n.ensures c.requires.0 c.requires.1 in omega (arith, r.count, r.few)

pub bounds-times-i : goal.bounds-times-i
bounds-times-i c = let r = c.read-n.ensures c.requires.0 c.requires.1 in omega (arith, r.count, r.few)

pub bounds-letters-i : goal.bounds-letters-i
bounds-letters-i c = let r = c.read-n.ensures c.requires.0 c.requires.1 in omega (arith, r.count, r.few)

pub loop-i-preserved : goal.loop-i-preserved
loop-i-preserved c =
    let r = c.read-n.ensures c.requires.0 c.requires.1 in
    through_more _ _ _ c.loop-i.i c.loop-i-test.true (omega (arith, r.count, r.few, c.read-n.auto.times)) (omega (arith, r.count, r.few, c.read-n.auto.letters))
    c.loop-i.invariant c.event-x.ensures

pub returns : goal.returns
returns c = λ es e t. through_all {i = c.loop-i.i} (c.read-n.ensures es e) refl refl (omega arith) c.loop-i.invariant t
