-- `entry` meets its contract. The invariant: behind the character the events up to number i are written.
use mathlib.Core.Path.{refl, ◌∙◌}
use Rattle.folded.specs.Pieces.{laid, each}
use Rattle.folds.proofs.Laws.{writes_nothing}
use Rattle.spots.proofs.Joined.{joined}
use Rattle.timings.proofs.Writing.{events_more, entry_writes}
use native.Mathlib.Omega.{arith}
use Rattle.timings.proofs.entry.Goals as goal

pub loop-i-init : goal.loop-i-init
unfolding laid each joined
loop-i-init c = writes_nothing _ _

pub offset_bounds-times-i : goal.offset_bounds-times-i
offset_bounds-times-i c = let r = c.read-n.ensures c.requires.0 c.requires.1 in omega (arith, r.count, r.few)

pub bounds-times-i : goal.bounds-times-i
bounds-times-i c = let r = c.read-n.ensures c.requires.0 c.requires.1 in omega (arith, r.count, r.few)

pub bounds-letters-i : goal.bounds-letters-i
bounds-letters-i c = let r = c.read-n.ensures c.requires.0 c.requires.1 in omega (arith, r.count, r.few)

pub loop-i-preserved : goal.loop-i-preserved
loop-i-preserved c =
    let r = c.read-n.ensures c.requires.0 c.requires.1 in
    events_more _ _ c.loop-i.i (omega (arith, r.count, r.few, c.read-n.auto.times)) (omega (arith, r.count, r.few, c.read-n.auto.letters)) c.loop-i.invariant c.event-p.ensures

pub shape_of-page : goal.shape_of-page
shape_of-page c = c.add.ensures.kept ∙ c.loop-i.invariant.kept ∙ c.add-p.ensures.kept

pub returns : goal.returns
returns c = λ es x. entry_writes {i = c.loop-i.i} (c.read-n.ensures es x) refl refl (omega arith) c.add-p.ensures c.loop-i.invariant c.add.ensures
