-- `expect` meets its contract: a step, and then a test on the token that it took.
use mathlib.Core.Path.{refl}
use Rattle.words.proofs.Flow.{then, checked, given}
use Rattle.words.proofs.expect.Goals as goal

pub returns : goal.returns
returns c = then _ c.step-r.ensures (then _ (checked c.refuse_if.ensures refl refl) given)
