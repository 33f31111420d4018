-- `position` meets its contract: its three pieces are the line and the column of the place.
use mathlib.Core.Path.{ap}
use native.Mathlib.Omega.{arith}
use Rattle.tokens.specs.Written.{bytes}
use Rattle.columns.specs.declared.Position.{Position}
use Rattle.sections.proofs.Pieces.{adds_both, adds_whole, word_adds}
use Rattle.sections.proofs.Laws.{position_is}
use Rattle.sections.proofs.position.Goals as goal

pub returns : goal.returns
unfolding bytes
returns c =
    let a = c.args in
    let found = c.position_of-p.ensures in
    adds_whole
    (adds_both c.with_number-end.ensures (adds_both c.with_number-end-2.ensures (word_adds c.put.ensures)))
    (position_is a.text.now a.place _ _ (ap (λ (p : Position). p.line) found) (ap (λ (p : Position). p.column) found)) (omega arith)
