-- `help` meets its contract: its two pieces are the lines.
use Rattle.tokens.specs.Written.{bytes}
use native.Mathlib.Omega.{arith}
use Rattle.sections.proofs.Pieces.{adds_both, adds_whole, word_adds}
use Rattle.lines.proofs.Laws.{help_is}
use Rattle.lines.proofs.help.Goals as goal

pub returns : goal.returns
unfolding bytes
returns c =
    adds_whole
    (adds_both (word_adds c.put-end.ensures) (word_adds c.put.ensures)) help_is (omega arith)
