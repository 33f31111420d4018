-- `block` meets its contract. The invariant: reading on from here, with the waveforms that are marked, is reading all names' waveforms.
use mathlib.Core.Path.{◌∙◌}
use mathlib.Core.Bool.{false}
use Rattle.tokens.specs.Written.{bytes}
use Rattle.meaning.specs.Timing.{waveforms}
use Rattle.signals.specs.Names.{names_of}
use Rattle.words.proofs.Loops.{on}
use Rattle.timing.proofs.Making.{again, fewer, leaves, closes}
use Rattle.timing.proofs.EntryReading.{takes_waveforms}
use Rattle.timing.proofs.Watching.{unwatched}
use Rattle.timing.proofs.block.Goals as goal

pub waveforms-x-requires : goal.waveforms-x-requires
waveforms-x-requires c = let l = c.loop-watch.invariant.1 false c.requires.3.waves (unwatched c.requires.3.marks) in
    (c.loop-watch.invariant.0 ∙ c.requires.0, c.requires.1, c.requires.2, record { waves = l.state; marks = (l.kept (on _ _ c.until.ensures c.loop-watch-test.true)).marks })

pub loop-watch-smaller : goal.loop-watch-smaller
unfolding bytes
loop-watch-smaller c = let l = c.loop-watch.invariant.1 false c.requires.3.waves (unwatched c.requires.3.marks) in
    fewer (takes_waveforms (names_of c.args.text.now c.args.places.now c.args.lists.now c.args.names)) l c.until.ensures c.loop-watch-test.true (c.waveforms-x.ensures false)

pub loop-watch-preserved : goal.loop-watch-preserved
unfolding bytes
loop-watch-preserved c = (c.waveforms-x.auto.table ∙ c.loop-watch.invariant.0, λ here ws m. again (takes_waveforms (names_of c.args.text.now c.args.places.now c.args.lists.now c.args.names)) (c.loop-watch.invariant.1 here ws m) c.until.ensures c.loop-watch-test.true (c.waveforms-x.ensures here))

pub returns : goal.returns
unfolding bytes
returns c = λ here ws m. closes "}" (waveforms (names_of c.args.text.now c.args.places.now c.args.lists.now c.args.names)) ws (leaves (takes_waveforms (names_of c.args.text.now c.args.places.now c.args.lists.now c.args.names)) (c.loop-watch.invariant.1 here ws m) c.until.ensures c.loop-watch-test.false) c.due-cursor.ensures
