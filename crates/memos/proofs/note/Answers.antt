-- Five numbers are stored.
use Rattle.memos.proofs.Rows.{note_written}
use Rattle.memos.proofs.note.Goals as goal

pub returns : goal.returns
returns c =
    let u = c.requires.1 in
    note_written _ _ _ _ _ _ _ c.requires.0 (c.short.ensures u.seconds) (c.short-2.ensures u.fault) (c.short-3.ensures u.at) (c.short-4.ensures u.end)
