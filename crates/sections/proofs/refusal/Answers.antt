-- `refusal` meets its contract: its three pieces are the refusal.
use native.Mathlib.Omega.{arith}
use Rattle.tokens.specs.Written.{bytes}
use Rattle.sections.proofs.Pieces.{adds_both, adds_whole}
use Rattle.sections.proofs.Laws.{refusal_is}
use Rattle.sections.proofs.refusal.Goals as goal

pub returns : goal.returns
unfolding bytes
returns c =
    let a = c.args in
    adds_whole
    (adds_both c.with_number-end.ensures (adds_both c.with_number-end-2.ensures c.position.ensures))
    (refusal_is a.text.now a.no a.place) (omega arith)
