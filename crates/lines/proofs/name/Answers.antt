-- `name` meets its contract: its three pieces are the line.
use Rattle.tokens.specs.Written.{bytes}
use native.Mathlib.Omega.{arith}
use Rattle.sections.proofs.Pieces.{adds_both, adds_whole, word_adds}
use Rattle.lines.proofs.Laws.{name_is}
use Rattle.lines.proofs.name.Goals as goal

pub returns : goal.returns
unfolding bytes
returns c =
    let a = c.args in
    adds_whole
    (adds_both (word_adds c.put-end.ensures)
    (adds_both c.with_number-end.ensures c.counted.ensures))
    (name_is a.name.now a.place) (omega arith)
