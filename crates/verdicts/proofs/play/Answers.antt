-- `play` meets its contract: 17, behind it 25, or what is told of an accepted text.
use Rattle.texts.proofs.Sounds.{sound_runs}
use Rattle.verdicts.proofs.Found.{meaning_failing, meaning_crossing, meaning_given, quiet_crosses}
use Rattle.verdicts.proofs.Judging.{played_judged}
use Rattle.verdicts.proofs.play.Goals as goal

pub returns-in-Some : goal.returns-in-Some
returns-in-Some c = meaning_failing c.requires.0 c.in-Some.ensures

pub is_quiet-requires : goal.is_quiet-requires
is_quiet-requires c =
    let found = c.requires.0 in
    let read = sound_runs _ found.is in
    (found.it.read, read.rest, read.read)

pub returns-then-is_quiet : goal.returns-then-is_quiet
returns-then-is_quiet c =
    let found = c.requires.0 in
    let quiet = quiet_crosses found (c.is_quiet.ensures c.if-is_quiet.true) in
    played_judged c.args.wanted found (meaning_given found c.in_default.ensures quiet) c.told.ensures

pub crossing-requires : goal.crossing-requires
crossing-requires c = (_, c.requires.0)

pub returns-in-Some-crossing : goal.returns-in-Some-crossing
returns-in-Some-crossing c = meaning_crossing c.requires.0 c.in_default.ensures c.in-Some-crossing.ensures

pub told-requires-2 : goal.told-requires-2
told-requires-2 c =
    let tabled = c.requires.0.tabled in
    (tabled.few_signals, tabled.describes.few_tables)

pub returns : goal.returns
returns c =
    let found = c.requires.0 in
    played_judged c.args.wanted found (meaning_given found c.in_default.ensures c.in_default-crossing.ensures) c.told-2.ensures
