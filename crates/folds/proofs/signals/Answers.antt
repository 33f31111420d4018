-- `signals` meets its contract. The invariant: behind `Signals{` the signals up to number i are written.
use native.Mathlib.Omega.{arith}
use mathlib.Core.Path.{◌≡◌, ◌∙◌}
use Rattle.tokens.specs.Written.{bytes}
use Rattle.folds.proofs.Laws.{no_signals, signals_more, signals_write}
use Rattle.folds.proofs.signals.Goals as goal

pub loop-i-init : goal.loop-i-init
loop-i-init c = no_signals c.args.text.now c.args.places.now _ _

pub signal-p-requires : goal.signal-p-requires
signal-p-requires c = omega (arith, c.requires)

pub loop-i-preserved : goal.loop-i-preserved
loop-i-preserved c = signals_more c.args.text.now c.args.places.now c.loop-i.i c.loop-i.invariant c.signal-p.ensures

pub shape_of-page : goal.shape_of-page
shape_of-page c = c.add.ensures.kept ∙ c.loop-i.invariant.kept ∙ c.add-p.ensures.kept

pub returns : goal.returns
unfolding bytes
returns c =
    let loop = c.loop-i in
    let e : loop.i ≡ c.args.count = omega arith in
    rw (← e)
    (signals_write c.args.text.now c.args.places.now loop.i c.add-p.ensures loop.invariant c.add.ensures)
