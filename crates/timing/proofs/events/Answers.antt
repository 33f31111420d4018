-- `events` meets its contract. The invariant: reading on from here, with the events so far, is reading all of them.
use lib.ListN.{replicate, length-replicate}
use Rattle.tokens.specs.Written.{bytes}
use Rattle.meaning.specs.Timing.{blanks, event}
use Rattle.timing.specs.Events.{events}
use Rattle.timing.proofs.Making.{looping, again, fewer, leaves, closes, made, makes_bind}
use Rattle.timing.proofs.EventReading.{takes_event}
use Rattle.timing.proofs.Places.{due_placed}
use Rattle.timing.proofs.events.Goals as goal

pub loop-times-init : goal.loop-times-init
loop-times-init c = λ s₀ h. looping s₀ h

pub loop-times-smaller : goal.loop-times-smaller
unfolding bytes
loop-times-smaller c = let first = c.event-first.ensures (blanks (replicate c.args.n 0), 0) (rw length-replicate at (c.no_events.ensures (replicate c.args.n 0))) in
    fewer (takes_event c.args.n) (c.loop-times.invariant first.it first.held) c.until.ensures c.loop-times-test.true c.event-x.ensures

pub loop-times-preserved : goal.loop-times-preserved
unfolding bytes
loop-times-preserved c = λ s₀ h. again (takes_event c.args.n) (c.loop-times.invariant s₀ h) c.until.ensures c.loop-times-test.true c.event-x.ensures

pub returns : goal.returns
unfolding events bytes
returns c = record {
  by_index = λ cs e.
      let first = c.event-first.ensures (blanks cs, 0) (rw e at (c.no_events.ensures cs)) in
      let last = closes "}" (event c.args.n) first.it (leaves (takes_event c.args.n) (c.loop-times.invariant first.it first.held) c.until.ensures c.loop-times-test.false) c.due.ensures in
      rw e (makes_bind _ first (made last.goes λ h. (last.held h).chars));
  placed = due_placed (bytes "}") c.due.ensures;
}
