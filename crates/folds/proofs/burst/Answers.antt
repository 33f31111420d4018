-- `burst` meets its contract. The invariant: behind the line's beginning the names up to number i are written.
use native.Mathlib.Omega.{arith}
use mathlib.Core.Path.{◌≡◌, ◌∙◌}
use Rattle.tokens.specs.Written.{bytes}
use Rattle.folds.proofs.Laws.{no_listed, listed_more, burst_writes}
use Rattle.folds.proofs.burst.Goals as goal

pub loop-i-init : goal.loop-i-init
loop-i-init c = no_listed _ _

pub loop-i-preserved : goal.loop-i-preserved
loop-i-preserved c = listed_more c.loop-i.i c.loop-i.invariant c.listed-p.ensures

pub shape_of-page : goal.shape_of-page
shape_of-page c = c.add.ensures.kept ∙ c.loop-i.invariant.kept ∙ c.add-p.ensures.kept

pub returns : goal.returns
unfolding bytes
returns c =
    let loop = c.loop-i in
    let e : loop.i ≡ c.args.count = omega arith in
    rw (← e) (burst_writes loop.i c.add-p.ensures loop.invariant c.add.ensures)
