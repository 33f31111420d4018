-- `stated` meets its contract: its three pieces are the line.
use Rattle.tokens.specs.Written.{bytes}
use native.Mathlib.Omega.{arith}
use Rattle.sections.proofs.Pieces.{adds_both, adds_whole, word_adds}
use Rattle.lines.proofs.Laws.{stated_is}
use Rattle.lines.proofs.stated.Goals as goal

pub returns : goal.returns
unfolding bytes
returns c =
    let a = c.args in
    adds_whole
    (adds_both c.with_number-end.ensures
    (adds_both c.with_number-end-2.ensures (word_adds c.put.ensures)))
    (stated_is a.cycle a.signal a.letter) (omega arith)
