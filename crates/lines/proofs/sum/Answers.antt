-- `sum` meets its contract: its three pieces are the line.
use Rattle.tokens.specs.Written.{bytes}
use native.Mathlib.Omega.{arith}
use Rattle.sections.proofs.Pieces.{adds_both, adds_whole}
use Rattle.lines.proofs.Laws.{sum_is}
use Rattle.lines.proofs.sum.Goals as goal

pub returns : goal.returns
unfolding bytes
returns c =
    let a = c.args in
    adds_whole
    (adds_both c.with_number-end.ensures
    (adds_both c.with_number-end-2.ensures c.counted.ensures))
    (sum_is a.good a.hurt a.unread) (omega arith)
