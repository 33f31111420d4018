-- `is_blank` meets its contract: the code's tests are the definition's, in its order.
use mathlib.Core.Path.{refl}
use Rattle.tokens.specs.Bytes.{blank}
use Rattle.tokens.proofs.is_blank.Goals as goal

pub returns : goal.returns
unfolding blank
returns c = refl
