-- `overwrite` meets its contract. The invariant: what is left to overwrite from here gives what was to be given.
use native.Mathlib.Omega.{arith}
use mathlib.Core.Path.{refl, sym, ◌∙◌}
use lib.ListN.{length, length-set}
use Rattle.saving.proofs.Spaces.{spaced_step, spaced_end}
use Rattle.tokens.proofs.Bools.{both_below}
use Rattle.saving.proofs.overwrite.Goals as goal

pub loop-i-init : goal.loop-i-init
loop-i-init c = (refl, refl)

pub bounds-text-i : goal.bounds-text-i
bounds-text-i c = (both_below c.loop-i.i c.args.behind (length c.loop-i.text) c.loop-i-test.true).1

pub overflow_add-i : goal.overflow_add-i
overflow_add-i c = omega (arith, (both_below c.loop-i.i c.args.behind (length c.loop-i.text) c.loop-i-test.true).0)

pub loop-i-smaller : goal.loop-i-smaller
loop-i-smaller c = omega (arith, (both_below c.loop-i.i c.args.behind (length c.loop-i.text) c.loop-i-test.true).0)

pub loop-i-preserved : goal.loop-i-preserved
loop-i-preserved c = (length-set c.loop-i.text c.loop-i.i 32 ∙ c.loop-i.invariant.0, c.loop-i.invariant.1 ∙ spaced_step c.loop-i.i c.args.behind c.loop-i.text (both_below c.loop-i.i c.args.behind (length c.loop-i.text) c.loop-i-test.true).0)

pub shape_of-text : goal.shape_of-text
shape_of-text c = c.loop-i.invariant.0

pub returns : goal.returns
returns c = sym (c.loop-i.invariant.1 ∙ spaced_end c.loop-i.i c.args.behind c.loop-i.text c.loop-i-test.false)
