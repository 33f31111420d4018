-- `extend` meets its contract: until the last one, every run is as long as all that is there, so that it ends as the bytes before the place do.
use native.Mathlib.Omega.{arith}
use Rattle.repeats.proofs.Copying.{extends_more, whole_more}
use Rattle.repeats.proofs.extend.Goals as goal

pub loop-done-preserved : goal.loop-done-preserved
loop-done-preserved c =
    let below = c.requires.1 in
    let whole = c.loop-done.invariant.2 c.loop-done-test.true in
    let copied = c.copy.ensures in
    (omega arith, extends_more below c.loop-done.invariant.1 whole copied (omega arith), λ h. whole_more below c.loop-done.invariant.1 whole copied (omega arith))
