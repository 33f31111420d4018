-- `mark_all` meets its contract. The invariant: the signals so far have their marks, and no other mark is changed.
use mathlib.Core.Path.{◌∙◌}
use Rattle.timing.proofs.Marking.{marked_no_signals, marked_signal, marked_all}
use Rattle.timing.proofs.mark_all.Goals as goal

pub loop-s-init : goal.loop-s-init
loop-s-init c = marked_no_signals _ _

pub mark_chars-requires : goal.mark_chars-requires
mark_chars-requires c = (c.loop-s.auto.table ∙ c.requires.0, c.requires.1 c.loop-s.s-index c.loop-s-test.true, c.requires.2)

pub loop-s-preserved : goal.loop-s-preserved
loop-s-preserved c = marked_signal c.args.sigs.now c.loop-s.s-index c.loop-s-test.true c.loop-s.invariant c.mark_chars.ensures

pub returns : goal.returns
returns c = marked_all c.args.sigs.now c.args.w.now c.loop-s-test.false c.loop-s.invariant
