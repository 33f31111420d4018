-- A turn of the loop is a piece; behind the loop the `;` is due.
use Rattle.tokens.specs.Written.{bytes}
use Rattle.data.proofs.Turns.{reading_none, reading_more, reading_less, reading_all}
use Rattle.data.proofs.spelled.Goals as goal

pub loop-buffer-init : goal.loop-buffer-init
loop-buffer-init c = reading_none

pub loop-buffer-smaller : goal.loop-buffer-smaller
unfolding bytes
loop-buffer-smaller c =
    let loop = c.loop-buffer in
    reading_less loop.invariant c.until.ensures c.loop-buffer-test.true c.piece-p.ensures

pub loop-buffer-preserved : goal.loop-buffer-preserved
unfolding bytes
loop-buffer-preserved c =
    let loop = c.loop-buffer in
    reading_more loop.invariant c.until.ensures c.loop-buffer-test.true c.piece-p.ensures

pub shape_of-buffer : goal.shape_of-buffer
shape_of-buffer c = c.loop-buffer.invariant.kept

pub returns : goal.returns
unfolding bytes
returns c = reading_all c.loop-buffer.invariant c.until.ensures c.loop-buffer-test.false c.due-end.ensures
