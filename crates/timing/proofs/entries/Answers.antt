-- `entries` meets its contract. The invariant: reading on from here, with the waveforms that are marked, is reading all entries.
use mathlib.Core.Path.{◌∙◌}
use mathlib.Core.Bool.{false}
use Rattle.tokens.specs.Written.{bytes}
use Rattle.meaning.specs.Timing.{entry}
use Rattle.timing.proofs.Making.{again, fewer, leaves, closes}
use Rattle.timing.proofs.EntryReading.{takes_entry}
use Rattle.timing.proofs.Watching.{unwatched}
use Rattle.timing.proofs.entries.Goals as goal

pub loop-watch-smaller : goal.loop-watch-smaller
unfolding bytes
loop-watch-smaller c = let l = c.loop-watch.invariant.2 false c.requires.2.waves (unwatched c.requires.2.marks) in
    fewer (takes_entry c.args.sigs.now) l c.until.ensures c.loop-watch-test.true (c.entry-x.ensures.makes false)

pub loop-watch-preserved : goal.loop-watch-preserved
unfolding bytes
loop-watch-preserved c = (c.entry-x.auto.table ∙ c.loop-watch.invariant.0, c.entry-x.ensures.placed, λ here ws m. again (takes_entry c.args.sigs.now) (c.loop-watch.invariant.2 here ws m) c.until.ensures c.loop-watch-test.true (c.entry-x.ensures.makes here))

pub returns : goal.returns
unfolding bytes
returns c = λ here ws m. closes "}" (entry c.args.sigs.now) ws (leaves (takes_entry c.args.sigs.now) (c.loop-watch.invariant.2 here ws m) c.until.ensures c.loop-watch-test.false) c.due-cursor.ensures
