-- `counted` meets its contract: a word, digits and LF are the line.
use native.Mathlib.Omega.{arith}
use Rattle.sections.proofs.Pieces.{adds_both, adds_whole, word_adds}
use Rattle.lines.proofs.Laws.{counted_is}
use Rattle.lines.proofs.counted.Goals as goal

pub returns : goal.returns
returns c =
    let a = c.args in
    adds_whole
    (adds_both c.with_number-end.ensures (word_adds c.put.ensures))
    (counted_is a.word.now a.n) (omega arith)
