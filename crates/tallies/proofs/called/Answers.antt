-- What it asks by itself, then each signal.
use native.Mathlib.Omega.{arith}
use Rattle.tallies.proofs.Grown.{more_then}
use Rattle.tallies.proofs.Calling.{calling_next, called_all}
use Rattle.tallies.proofs.called.Goals as goal

pub loop-s-preserved : goal.loop-s-preserved
loop-s-preserved c = calling_next c.loop-s.invariant c.requires.2 (omega (arith, c.requires.4)) c.show_unassigned.ensures.0 c.show_unassigned.ensures.1 c.feed_signal.ensures.0 (λ xs u. (c.feed_signal.ensures.1 xs u).1)

pub returns : goal.returns
returns c =
    let y = c.loop-s.invariant in
    let a = c.ask.ensures in
    (more_then a.0 y.more, called_all y c.requires.2 _ a.0 a.1 (omega arith) c.requires.4)
