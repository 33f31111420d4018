-- `entry` meets its contract: where reading goes on behind CHARS they are few and good, as the events and the marks ask.
use mathlib.Core.Path.{sym, ap}
use lib.ListN.{length}
use borrow.Author.Tests.{eq-eqb, ne_eqb}
use Rattle.tokens.specs.Written.{bytes}
use Rattle.words.specs.Cursor.{ahead}
use Rattle.timing.proofs.Places.{refused_placed}
use Rattle.timing.proofs.EntryReading.{entry_stops, entry_reads}
use Rattle.timing.proofs.entry.Goals as goal

pub returns-then-d-ne0 : goal.returns-then-d-ne0
returns-then-d-ne0 c = let stopped = ne_eqb c.chars-d.result.no 0 c.if-d-ne0.true in record { makes = λ here ws m. entry_stops c.chars-d.ensures m.marks stopped; placed = refused_placed stopped }

pub events-cursor-requires : goal.events-cursor-requires
events-cursor-requires c = rw c.bytes_of-w.ensures (c.chars-d.ensures.few (eq-eqb c.chars-d.result.no 0 c.if-d-ne0.false))

pub mark_all-requires : goal.mark_all-requires
mark_all-requires c = (c.requires.0, c.requires.1, rw c.bytes_of-w.ensures (c.chars-d.ensures.good (eq-eqb c.chars-d.result.no 0 c.if-d-ne0.false)))

pub returns : goal.returns
unfolding bytes
returns c = record {
  makes = λ here ws m.
      entry_reads c.chars-d.ensures m.marks c.requires.2 c.due-e.ensures (ap length (sym c.bytes_of-w.ensures))
      (c.events-cursor.ensures.by_index (ahead c.args.text.now c.args.x.cursor).word (ap length (sym c.bytes_of-w.ensures))) (rw c.bytes_of-w.ensures at c.mark_all.ensures)
      (rw c.bytes_of-w.ensures at c.look-sight.ensures) m.watched;
  placed = c.events-cursor.ensures.placed;
}
