-- The row of the next level stands behind.
use native.Mathlib.Omega.{arith}
use lib.ListN.{length}
use Rattle.memos.proofs.Rows.{writes_none}
use Rattle.memos.proofs.Marking.{untracked}
use Rattle.memos.proofs.rise.Goals as goal

pub returns-then-level-memo : goal.returns-then-level-memo
returns-then-level-memo c =
    (writes_none, untracked c.args.level (length c.args.memo.now) c.if-level-memo.true)

pub returns : goal.returns
returns c =
    (c.merge.ensures.0, λ some long s h. c.merge.ensures.1 s (omega (arith, h)))
