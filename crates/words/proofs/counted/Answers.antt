-- `counted` meets its contract: one law for each side of the cycle's start.
use native.Mathlib.Omega.{arith}
use Rattle.words.proofs.Signs.{counted_before, counted_behind}
use Rattle.words.proofs.counted.Goals as goal

pub returns-then-n-gt-START : goal.returns-then-n-gt-START
returns-then-n-gt-START c = λ h. absurd (omega arith)

pub returns-then-minus : goal.returns-then-minus
returns-then-minus c = λ h. counted_before _ _ c.if-minus.true

pub returns : goal.returns
returns c = λ h. counted_behind _ _ c.if-minus.false
