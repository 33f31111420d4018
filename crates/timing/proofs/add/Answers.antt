-- `add` meets its contract. The invariant: the characters before i have the event, and what the times tell is right for all of them.
use native.Mathlib.Omega.{arith}
use Rattle.timing.proofs.EventLetters.{spread_many}
use Rattle.timing.proofs.EventTimes.{upto_all, add_turn, add_fails}
use Rattle.timing.proofs.add.Goals as goal

pub returns-then-t-least : goal.returns-then-t-least
returns-then-t-least c = λ s es a b p v. (add_fails c.requires.0 a b p v (c.loop-i.invariant s es a b p v) c.loop-i-test.true (c.letter_at.ensures c.args.n es c.requires.0 b p c.loop-i-test.true) c.slot-k.ensures c.if-t-least.true)

pub loop-i-preserved : goal.loop-i-preserved
loop-i-preserved c = λ s es a b p v. add_turn c.requires.0 a b p v (c.loop-i.invariant s es a b p v) c.loop-i-test.true (c.letter_at.ensures c.args.n es c.requires.0 b p c.loop-i-test.true) c.slot-k.ensures c.if-t-least.false

pub returns : goal.returns
returns c = λ s es a b p v. upto_all a (spread_many c.requires.0 b p) (c.loop-i.invariant s es a b p v) (omega arith) (omega (arith, c.min-count.ensures, c.saturating_add.ensures))
