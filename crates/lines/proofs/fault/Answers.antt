-- `fault` meets its contract: its four pieces are the line.
use Rattle.tokens.specs.Written.{bytes}
use native.Mathlib.Omega.{arith}
use Rattle.sections.proofs.Pieces.{adds_both, adds_whole, word_adds}
use Rattle.lines.proofs.Laws.{fault_is}
use Rattle.lines.proofs.fault.Goals as goal

pub returns : goal.returns
unfolding bytes
returns c =
    let a = c.args in
    adds_whole
    (adds_both (word_adds c.put-end.ensures)
    (adds_both (word_adds c.put-end-2.ensures)
    (adds_both (word_adds c.put-end-3.ensures) (word_adds c.put.ensures))))
    (fault_is a.what.now a.word.now) (omega arith)
