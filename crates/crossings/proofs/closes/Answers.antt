-- No cycle in the row, or a pair.
use native.Mathlib.Omega.{arith}
use Rattle.crossings.proofs.Passing.{closed_none, closed_pair}
use Rattle.crossings.proofs.closes.Goals as goal

pub returns-then-seen-row-eq0 : goal.returns-then-seen-row-eq0
returns-then-seen-row-eq0 c = λ tabs h. closed_none c.if-seen-row-eq0.true

pub held-requires : goal.held-requires
held-requires c = (c.requires.0, c.requires.1, c.requires.2, omega (arith, c.requires.2.pins_long))

pub returns : goal.returns
returns c = λ tabs h. closed_pair c.if-seen-row-eq0.false (c.held.ensures tabs h _)
