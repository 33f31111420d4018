-- `progress` meets its contract: its three pieces are the line.
use Rattle.tokens.specs.Written.{bytes}
use native.Mathlib.Omega.{arith}
use Rattle.sections.proofs.Pieces.{adds_both, adds_whole, word_adds}
use Rattle.lines.proofs.Laws.{progress_is_lem}
use Rattle.lines.proofs.progress.Goals as goal

pub returns : goal.returns
unfolding bytes
returns c =
    let a = c.args in
    adds_whole
    (adds_both c.with_number-end.ensures
    (adds_both c.with_number-end-2.ensures (word_adds c.put.ensures)))
    (progress_is_lem a.done a.all) (omega arith)
