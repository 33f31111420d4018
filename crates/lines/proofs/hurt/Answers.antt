-- `hurt` meets its contract: its three pieces are the line.
use native.Mathlib.Omega.{arith}
use Rattle.sections.proofs.Pieces.{adds_both, adds_whole, word_adds}
use Rattle.lines.proofs.Laws.{hurt_is}
use Rattle.lines.proofs.hurt.Goals as goal

pub returns : goal.returns
returns c =
    let a = c.args in
    adds_whole
    (adds_both (word_adds c.put-end.ensures)
    (adds_both (word_adds c.put-end-2.ensures) c.refusal.ensures))
    (hurt_is a.file.now a.text.now a.no a.place) (omega arith)
