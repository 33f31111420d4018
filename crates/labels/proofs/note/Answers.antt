-- `note` meets its contract: no label is due; or the label is used already; or the table has one more.
use Rattle.words.specs.Cursor.{ahead}
use Rattle.labels.proofs.Scanning.{judged, notes_none, notes_again, notes_one}
use Rattle.labels.proofs.note.Goals as goal

pub returns-then-here-ne-DUE : goal.returns-then-here-ne-DUE
returns-then-here-ne-DUE c = notes_none (ahead c.args.text.now c.args.c) c.requires.0 c.if-here-ne-DUE.true

pub returns-then-is_used : goal.returns-then-is_used
returns-then-is_used c =
    notes_again _ _ _ _ (ahead c.args.text.now c.args.c) c.if-here-ne-DUE.false (judged _ c.bytes_of.ensures c.is_used.ensures c.if-is_used.true)

pub returns : goal.returns
returns c =
    notes_one c.args.c c.if-here-ne-DUE.false (judged _ c.bytes_of.ensures c.is_used.ensures c.if-is_used.false) c.add.ensures
