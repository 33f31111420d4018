-- `vector` meets its contract. The invariant: the values of the pins from number s on, and the brace, are left to write.
use native.Mathlib.Omega.{arith}
use mathlib.Core.Path.{refl, sym, ◌∙◌}
use Rattle.tokens.specs.Written.{bytes}
use Rattle.pens.proofs.Laws.{writes_both, writes_same}
use Rattle.stretches.proofs.Laws.{word_is}
use Rattle.stretches.proofs.Writing.{onward_none, onward_more, onward_all, values_next, values_end, vector_is}
use Rattle.stretches.proofs.vector.Goals as goal

pub loop-s-init : goal.loop-s-init
loop-s-init c = onward_none _ _ _

pub loop-s-preserved : goal.loop-s-preserved
loop-s-preserved c = onward_more c.loop-s.invariant c.value-p.ensures (values_next _ c.args.pins.now c.loop-s.s c.loop-s-test.true (word_is c.args.text.now c.args.places.now _ c.loop-s.s c.loop-s-test.true))

pub shape_of-page : goal.shape_of-page
shape_of-page c = c.add.ensures.kept ∙ c.loop-s.invariant.writes.kept ∙ c.add-p.ensures.kept

pub returns : goal.returns
unfolding bytes
returns c = writes_same (sym (vector_is _ c.args.pins.now)) (writes_both c.add-p.ensures (onward_all (onward_more c.loop-s.invariant c.add.ensures (values_end _ c.args.pins.now c.loop-s.s (omega arith))) refl))
