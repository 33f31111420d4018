-- The signal has no argument, or one.
use native.Mathlib.Omega.{arith}
use Rattle.arguments.proofs.Counted.{argument_some}
use Rattle.tallies.proofs.Grown.{more_none}
use Rattle.tallies.proofs.Feeding.{fed_none}
use Rattle.tallies.proofs.feed_signal.Goals as goal

pub returns-then-given-s-eq0 : goal.returns-then-given-s-eq0
returns-then-given-s-eq0 c = (more_none, λ xs u. fed_none u c.args.s (omega arith) c.if-given-s-eq0.true)

pub returns : goal.returns
returns c = (c.feed.ensures.0, λ xs u. let a = u.each _ (argument_some u c.args.s (omega arith) c.if-given-s-eq0.false) in c.feed.ensures.1 _ a.at)
