-- `drives` meets its contract: the letters in the document's order.
use mathlib.Core.Path.{refl}
use Rattle.tokens.specs.Written.{bytes}
use Rattle.meaning.specs.Lists.{has}
use Rattle.meaning.specs.Timing.{drives}
use Rattle.timing.proofs.drives.Goals as goal

pub returns : goal.returns
unfolding drives has bytes
returns c = refl
