-- `inside` meets its contract.
use mathlib.Core.Path.{refl}
use Rattle.spans.proofs.inside.Goals as goal

pub returns : goal.returns
returns c = refl
