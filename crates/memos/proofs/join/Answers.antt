-- All is as it was, or the digits are joined.
use native.Mathlib.Omega.{arith}
use Rattle.memos.proofs.Marking.{joins_high, joins_or, or_few}
use Rattle.memos.proofs.join.Goals as goal

pub returns-then-a-ge256 : goal.returns-then-a-ge256
returns-then-a-ge256 c =
    (c.requires.0, joins_high _ _ c.requires.0 (omega (arith, c.if-a-ge256.true)))

pub returns : goal.returns
returns c =
    (or_few _ _ c.requires.0 c.requires.1, joins_or _ _)
