-- The row stands behind what is tracked.
use native.Mathlib.Omega.{arith}
use Rattle.memos.proofs.Rows.{writes_none}
use Rattle.memos.proofs.again.Goals as goal

pub returns-then-level-eq0 : goal.returns-then-level-eq0
returns-then-level-eq0 c =
    (writes_none, λ some. absurd (omega (arith, c.if-level-eq0.true)))

pub returns : goal.returns
returns c =
    (c.merge.ensures.0, λ some s h. c.merge.ensures.1 s h)
