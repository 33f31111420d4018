-- `failing` meets its contract: 17, behind it 25, or the text is accepted.
use Rattle.texts.proofs.Sounds.{sound_runs}
use Rattle.verdicts.proofs.Found.{meaning_failing, meaning_crossing, meaning_given, quiet_crosses}
use Rattle.verdicts.proofs.failing.Goals as goal

pub returns-in-Some : goal.returns-in-Some
returns-in-Some c = λ w f. meaning_failing f c.in-Some.ensures

pub is_quiet-requires : goal.is_quiet-requires
is_quiet-requires c =
    let found = c.requires.found in
    let read = sound_runs _ found.is in
    (found.it.read, read.rest, read.read)

pub returns-then-is_quiet : goal.returns-then-is_quiet
returns-then-is_quiet c = λ w f. meaning_given f c.in_default.ensures (quiet_crosses f (c.is_quiet.ensures c.if-is_quiet.true))

pub crossing-requires : goal.crossing-requires
crossing-requires c = (_, c.requires.found)

pub returns-in-Some-crossing : goal.returns-in-Some-crossing
returns-in-Some-crossing c = λ w f. meaning_crossing f c.in_default.ensures c.in-Some-crossing.ensures

pub returns : goal.returns
returns c = λ w f. meaning_given f c.in_default.ensures c.in_default-crossing.ensures
