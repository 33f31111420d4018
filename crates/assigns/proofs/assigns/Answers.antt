-- A turn of the loop is an assignment; before it `{` is due, and behind it `}`.
use mathlib.Core.Path.{sym, ◌∙◌}
use Rattle.tokens.specs.Written.{bytes}
use Rattle.assigns.proofs.Turns.{reading_none, reading_more, reading_less, reading_all}
use Rattle.assigns.proofs.assigns.Goals as goal

pub loop-given-init : goal.loop-given-init
loop-given-init c = reading_none c.requires.1

pub assign-cursor-requires : goal.assign-cursor-requires
assign-cursor-requires c = (c.requires.0, c.loop-given.invariant.long)

pub loop-given-smaller : goal.loop-given-smaller
unfolding bytes
loop-given-smaller c =
    reading_less c.loop-given.invariant c.until.ensures c.loop-given-test.true c.assign-cursor.ensures

pub loop-given-preserved : goal.loop-given-preserved
unfolding bytes
loop-given-preserved c =
    reading_more c.loop-given.invariant c.until.ensures c.loop-given-test.true c.assign-cursor.ensures

pub shape_of-given : goal.shape_of-given
shape_of-given c = c.loop-given.invariant.long ∙ sym c.requires.1.long

pub returns : goal.returns
unfolding bytes
returns c =
    reading_all c.loop-given.invariant c.until.ensures c.loop-given-test.false c.due-cursor.ensures c.due.ensures
