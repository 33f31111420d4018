-- `compares` meets its contract: the letters in the document's order.
use mathlib.Core.Path.{refl}
use Rattle.tokens.specs.Written.{bytes}
use Rattle.meaning.specs.Lists.{has}
use Rattle.meaning.specs.Timing.{compares}
use Rattle.timing.proofs.compares.Goals as goal

pub returns : goal.returns
unfolding compares has bytes
returns c = refl
