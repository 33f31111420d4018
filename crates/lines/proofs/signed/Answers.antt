-- `signed` meets its contract: digits, or a `-` and the digits of what is left to the bits' range.
use native.Mathlib.Omega.{arith}
use Rattle.sections.proofs.Pieces.{adds_whole}
use Rattle.lines.proofs.Laws.{plus_is, minus_is}
use Rattle.lines.proofs.signed.Goals as goal

pub returns-then-bits-lt-NEGATIVE : goal.returns-then-bits-lt-NEGATIVE
returns-then-bits-lt-NEGATIVE c = adds_whole c.with_number.ensures (plus_is _ c.if-bits-lt-NEGATIVE.true) (omega arith)

pub returns : goal.returns
returns c = adds_whole c.with_number-2.ensures (minus_is _ _ c.if-bits-lt-NEGATIVE.false (omega arith)) (omega arith)
