-- `keep_all` meets its contract. The invariant: the signals so far have their spots, and no other spot is changed.
use mathlib.Core.Path.{◌∙◌}
use lib.ListN.{take}
use Rattle.sets.proofs.Sets.{sized}
use Rattle.spots.proofs.Spotting.{stored_no_signals, stored_signal, stored_set, set_front, below_at}
use Rattle.spots.proofs.keep_all.Goals as goal

pub loop-s-init : goal.loop-s-init
loop-s-init c = stored_no_signals _ _ _

pub keep-requires : goal.keep-requires
keep-requires c = (
  c.loop-s.auto.spots ∙ c.requires.0,
  below_at _ (set_front c.args.set.n c.args.set.v (sized c.args.set c.well_formed.1.0) c.min-most.ensures) c.requires.1 c.loop-s.s-index c.loop-s-test.true,
)

pub loop-s-preserved : goal.loop-s-preserved
loop-s-preserved c = stored_signal (take c.min-most.result c.args.set.v) c.loop-s.s-index c.loop-s-test.true c.loop-s.invariant c.keep.ensures

pub returns : goal.returns
returns c = stored_set _ (set_front c.args.set.n c.args.set.v (sized c.args.set c.well_formed.1.0) c.min-most.ensures) c.loop-s-test.false c.loop-s.invariant
