-- By the two kinds of character: one that can have no mark, and any other.
use native.Mathlib.Omega.{arith}
use mathlib.Core.Path.{sym}
use Rattle.tallies.proofs.has.Goals as goal

pub returns-then-b-ge-CHARS : goal.returns-then-b-ge-CHARS
returns-then-b-ge-CHARS c = λ tabs h. sym (h.3.above _ _ _ (omega arith) c.if-b-ge-CHARS.true)

pub returns : goal.returns
returns c = λ tabs h. h.3.marks _ _ _ (omega arith) (omega arith) (omega arith)
