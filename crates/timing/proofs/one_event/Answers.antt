-- `one_event` meets its contract: where reading goes on the time is within its bound and the letters are those of events, as adding them asks.
use mathlib.Core.List.{[]}
use borrow.Author.Tests.{eq-eqb, ne_eqb}
use Rattle.tokens.specs.Written.{bytes}
use Rattle.meaning.specs.Timing.{blanks}
use Rattle.timing.proofs.EventReading.{event_stops, event_time, event_rises, event_refused, event_letters, event_counts, event_all}
use Rattle.timing.proofs.one_event.Goals as goal

pub returns-then-e-ne0 : goal.returns-then-e-ne0
unfolding bytes
returns-then-e-ne0 c = λ s a. event_stops s c.requires c.signed_quoted-t.ensures c.letters-l.ensures c.due-d.ensures c.refuse_if-e.ensures (ne_eqb c.refuse_if-e.result.no 0 c.if-e-ne0.true)

pub add-requires : goal.add-requires
unfolding bytes
add-requires c = (c.requires, event_time (blanks [], 0) c.requires c.signed_quoted-t.ensures c.letters-l.ensures c.due-d.ensures c.refuse_if-e.ensures (eq-eqb c.refuse_if-e.result.no 0 c.if-e-ne0.false))

pub returns-in-Some : goal.returns-in-Some
unfolding bytes
returns-in-Some c = λ s a.
    let on = eq-eqb c.refuse_if-e.result.no 0 c.if-e-ne0.false in
    let told = c.in-Some.ensures s c.letters-l.ensures.it a (event_letters s c.requires c.signed_quoted-t.ensures c.letters-l.ensures c.due-d.ensures c.refuse_if-e.ensures on) (event_counts s c.requires c.signed_quoted-t.ensures c.letters-l.ensures c.due-d.ensures c.refuse_if-e.ensures on) (event_all s c.requires c.signed_quoted-t.ensures c.letters-l.ensures c.due-d.ensures c.refuse_if-e.ensures on) in
    event_rises s c.requires c.signed_quoted-t.ensures c.letters-l.ensures c.due-d.ensures c.refuse_if-e.ensures on told.1 told.2

pub returns-in-None : goal.returns-in-None
unfolding bytes
returns-in-None c = λ s a.
    let on = eq-eqb c.refuse_if-e.result.no 0 c.if-e-ne0.false in
    let told = c.in-None.ensures s c.letters-l.ensures.it a (event_letters s c.requires c.signed_quoted-t.ensures c.letters-l.ensures c.due-d.ensures c.refuse_if-e.ensures on) (event_counts s c.requires c.signed_quoted-t.ensures c.letters-l.ensures c.due-d.ensures c.refuse_if-e.ensures on) (event_all s c.requires c.signed_quoted-t.ensures c.letters-l.ensures c.due-d.ensures c.refuse_if-e.ensures on) in
    event_refused s c.requires c.signed_quoted-t.ensures c.letters-l.ensures c.due-d.ensures c.refuse_if-e.ensures on told c.refuse_if-cursor.ensures
