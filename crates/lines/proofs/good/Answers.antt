-- `good` meets its contract: its six pieces are the line.
use Rattle.tokens.specs.Written.{bytes}
use native.Mathlib.Omega.{arith}
use Rattle.sections.proofs.Pieces.{adds_both, adds_whole, word_adds}
use Rattle.lines.proofs.Laws.{good_is}
use Rattle.lines.proofs.good.Goals as goal

pub returns : goal.returns
unfolding bytes
returns c =
    let a = c.args in
    adds_whole
    (adds_both (word_adds c.put-end.ensures)
    (adds_both c.with_number-end.ensures
    (adds_both c.with_number-end-2.ensures
    (adds_both c.with_number-end-3.ensures
    (adds_both c.with_number-end-4.ensures c.counted.ensures)))))
    (good_is a.file.now a.signals a.tables a.patterns a.cycles a.size) (omega arith)
