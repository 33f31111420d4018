-- `entry_spots` meets its contract: CHARS, the first event and the others, as the definition read them.
use borrow.Author.Tests.{ltb-true}
use Rattle.tokens.specs.Written.{bytes}
use Rattle.spots.proofs.Entering.{entry_parts, entry_spots}
use native.Mathlib.Omega.{arith}
use Rattle.spots.proofs.entry_spots.Goals as goal

pub overflow_add-c : goal.overflow_add-c
unfolding bytes
overflow_add-c c = let x = entry_parts c.requires.spots.4 c.word-d.ensures c.due-e.ensures c.event-first.ensures in omega (arith, ltb-true c.args.c.at c.args.c.end x.token)

pub events-requires : goal.events-requires
unfolding bytes
events-requires c =
    let x = entry_parts c.requires.spots.4 c.word-d.ensures c.due-e.ensures c.event-first.ensures in
    (_, x.first, x.events, c.requires.spots.2, x.some, x.few, x.chars, x.rest)

pub returns : goal.returns
unfolding bytes
returns c = λ ws a us b y. entry_spots (entry_parts y c.word-d.ensures c.due-e.ensures c.event-first.ensures) b c.bytes_of.ensures c.keep_all.ensures c.events.ensures
