-- `events` meets its contract. The invariant: from here the definition reads on to the entry's end, and its events so far lie within the cycle.
use Rattle.tokens.specs.Written.{bytes}
use Rattle.spots.proofs.Following.{again, fewer, ended}
use Rattle.held.proofs.Grammar.{moves_event}
use Rattle.quiet.proofs.Reading.{event_keeps}
use Rattle.quiet.proofs.events.Goals as goal

pub loop-e-init : goal.loop-e-init
loop-e-init c = λ n z k s es us h x. record { state = s; kept = h; rest = x }

pub loop-e-smaller : goal.loop-e-smaller
unfolding bytes
loop-e-smaller c =
    let p = c.requires in
    let t = c.loop-e.invariant p.0 p.1 p.2 p.3.state p.3.answer p.3.rest p.3.kept p.3.read in
    fewer (moves_event p.0) t c.until.ensures c.loop-e-test.true (event_keeps c.event-e.ensures (c.within.ensures c.if-not-within.false) p.1 p.2)

pub loop-e-preserved : goal.loop-e-preserved
unfolding bytes
loop-e-preserved c = λ n z k s es us h x. again (moves_event n) (c.loop-e.invariant n z k s es us h x) c.until.ensures c.loop-e-test.true (event_keeps c.event-e.ensures (c.within.ensures c.if-not-within.false) z k)

pub returns : goal.returns
unfolding bytes
returns c = λ n z k s es us h x. ended (moves_event n) (c.loop-e.invariant n z k s es us h x) c.until.ensures c.loop-e-test.false c.due.ensures
