-- `events` meets its contract. The invariant: from here the definition reads on to the entry's end.
use Rattle.tokens.specs.Written.{bytes}
use Rattle.held.proofs.Grammar.{moves_event}
use Rattle.spots.proofs.Following.{again, fewer, ended}
use Rattle.spots.proofs.Entering.{event_follows}
use Rattle.spots.proofs.events.Goals as goal

pub loop-e-init : goal.loop-e-init
loop-e-init c = λ n s es us z k l x. record { state = s; kept = l; rest = x }

pub loop-e-smaller : goal.loop-e-smaller
unfolding bytes
loop-e-smaller c =
    let x = c.requires in
    let t = c.loop-e.invariant x.0 x.1 x.2 x.3 x.4 x.5 x.6 x.7 in
    fewer (moves_event x.0) t c.until.ensures c.loop-e-test.true (event_follows c.event-e.ensures x.4 x.5)

pub loop-e-preserved : goal.loop-e-preserved
unfolding bytes
loop-e-preserved c = λ n s es us z k l x. again (moves_event n) (c.loop-e.invariant n s es us z k l x) c.until.ensures c.loop-e-test.true (event_follows c.event-e.ensures z k)

pub returns : goal.returns
unfolding bytes
returns c = λ n s es us z k l x. ended (moves_event n) (c.loop-e.invariant n s es us z k l x) c.until.ensures c.loop-e-test.false c.due.ensures
