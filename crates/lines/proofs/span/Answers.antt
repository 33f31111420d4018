-- `span` meets its contract: its two pieces are the line.
use Rattle.tokens.specs.Written.{bytes}
use native.Mathlib.Omega.{arith}
use Rattle.sections.proofs.Pieces.{adds_both, adds_whole}
use Rattle.lines.proofs.Laws.{span_is}
use Rattle.lines.proofs.span.Goals as goal

pub returns : goal.returns
unfolding bytes
returns c =
    let a = c.args in
    adds_whole (adds_both c.with_number-end.ensures c.counted.ensures) (span_is a.first a.behind) (omega arith)
