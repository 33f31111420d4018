-- No last cycle, or a pair.
use native.Mathlib.Omega.{arith}
use Rattle.crossings.proofs.Passing.{fine_none, fine_pair}
use Rattle.crossings.proofs.held.Goals as goal

pub returns-then-seen-eq0 : goal.returns-then-seen-eq0
returns-then-seen-eq0 c = λ tabs h p. fine_none c.if-seen-eq0.true

pub in_order-requires : goal.in_order-requires
in_order-requires c = (c.requires.0, c.requires.1, omega (arith, c.requires.2.pins_long), c.requires.3)

pub returns : goal.returns
returns c = λ tabs h p. fine_pair c.if-seen-eq0.false (c.in_order.ensures tabs h _ p)
