-- `spans` meets its contract: it is a counted line.
use Rattle.tokens.specs.Written.{bytes}
use native.Mathlib.Omega.{arith}
use mathlib.Core.Path.{refl}
use Rattle.sections.proofs.Pieces.{adds_whole}
use Rattle.lines.proofs.spans.Goals as goal

pub returns : goal.returns
unfolding bytes
returns c = adds_whole c.counted.ensures refl (omega arith)
