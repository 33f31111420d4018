-- `no_pattern` meets its contract: it is one piece.
use Rattle.tokens.specs.Written.{bytes}
use native.Mathlib.Omega.{arith}
use mathlib.Core.Path.{refl}
use Rattle.lines.specs.Lines.{no_pattern}
use Rattle.sections.proofs.Pieces.{adds_whole, word_adds}
use Rattle.lines.proofs.no_pattern.Goals as goal

pub returns : goal.returns
unfolding bytes no_pattern
returns c = adds_whole (word_adds c.put.ensures) refl (omega arith)
