-- What stands there is shown, then the argument, then what is left is put there.
use Rattle.tallies.proofs.Grown.{more_then}
use Rattle.tallies.proofs.Entering.{unmarked, passed_later, on_signal}
use Rattle.tallies.proofs.enter.Goals as goal

pub returns : goal.returns
returns c = (
  passed_later (more_then c.show_where.ensures.0 c.feed_signal-last.ensures.0) c.leave.ensures.0,
  λ xs u tabs w. let f = c.feed_signal-last.ensures.1 xs u in
      on_signal c.requires.2 c.requires.4 c.byte-x.ensures c.show_where.ensures.0 (c.show_where.ensures.1 tabs w) c.feed_signal-last.ensures.0 (f.1 tabs w) c.leave.ensures.0 (c.leave.ensures.1 _ f.0 (unmarked u c.args.s)),
)
