-- `entry` meets its contract: CHARS, the first event and the others, as the definition read them.
use lib.ListN.{length}
use Rattle.tokens.specs.Written.{bytes}
use Rattle.quiet.proofs.Keeping.{some_where}
use Rattle.quiet.proofs.Reading.{entry_reads, entry_keeps}
use Rattle.quiet.proofs.entry.Goals as goal

pub events-requires : goal.events-requires
unfolding bytes
events-requires c =
    let x = entry_reads c.requires.1.read c.word-d.ensures c.due-e.ensures c.event-first.ensures (c.within.ensures c.if-not-within.false) in
    (length x.chars, x.some, x.few, record { state = x.first; kept = x.lined; answer = x.events; rest = c.requires.1.rest; read = x.rest })

pub returns : goal.returns
unfolding bytes
returns c =
    λ sigs. some_where c.events.result (λ d e ws a us h y.
    let x = entry_reads y c.word-d.ensures c.due-e.ensures c.event-first.ensures (c.within.ensures c.if-not-within.false) in
    let k = (rw e at (c.events.ensures (length x.chars) x.some x.few)) x.first x.events us x.lined x.rest in
    (k.0, entry_keeps x h k.1))
