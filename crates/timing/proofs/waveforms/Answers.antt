-- `waveforms` meets its contract: the signals of a name that is found are below the bound, as the entries ask.
use borrow.Author.Tests.{eq-eqb, ne_eqb}
use Rattle.tokens.specs.Written.{bytes}
use Rattle.meaning.specs.Timing.{waveforms}
use Rattle.signals.specs.Names.{names_of}
use Rattle.words.proofs.Flow.{alive_before}
use Rattle.timing.proofs.Making.{makes_then}
use Rattle.timing.proofs.Places.{due_placed}
use Rattle.timing.proofs.EntryReading.{old_row, name_below, waves_stop}
use Rattle.timing.proofs.waveforms.Goals as goal

pub returns-then-cursor-ne0 : goal.returns-then-cursor-ne0
unfolding waveforms bytes
returns-then-cursor-ne0 c = λ here ws m. waves_stop (names_of c.args.text.now c.args.places.now c.args.lists.now c.args.names) ws (old_row c.args.places.now c.args.lists.now c.args.names c.old_name-old.ensures) c.due-cursor.ensures (ne_eqb c.due-cursor.result.no 0 c.if-cursor-ne0.true)

pub entries-requires : goal.entries-requires
unfolding bytes
entries-requires c = (c.requires.0, rw c.row-sigs.ensures (name_below (names_of c.args.text.now c.args.places.now c.args.lists.now c.args.names) c.requires.2 (old_row c.args.places.now c.args.lists.now c.args.names c.old_name-old.ensures) (alive_before c.due-cursor.ensures (eq-eqb c.due-cursor.result.no 0 c.if-cursor-ne0.false))), c.requires.3, due_placed (bytes "{") c.due-cursor.ensures)

pub returns : goal.returns
unfolding waveforms bytes
returns c = λ here ws m. makes_then _ (old_row c.args.places.now c.args.lists.now c.args.names c.old_name-old.ensures) (makes_then _ c.due-cursor.ensures (rw c.row-sigs.ensures at (c.entries.ensures here ws m)))
