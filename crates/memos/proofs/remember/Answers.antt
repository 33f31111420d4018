-- The note, the cursor, the marks and the picture of one row are written, where they can be.
use Prim.Native.Nat.{◌*◌}
use native.Mathlib.Omega.{arith}
use Rattle.meaning.specs.Bounds.{signals_most}
use Rattle.memos.proofs.Rows.{row_kept, row_written, traces_from}
use Rattle.memos.proofs.remember.Goals as goal

pub returns-then-memo-table : goal.returns-then-memo-table
returns-then-memo-table c =
    row_kept

pub returns-then-memo-o : goal.returns-then-memo-o
returns-then-memo-o c =
    row_kept

pub returns-then-not-is_short : goal.returns-then-not-is_short
returns-then-not-is_short c =
    row_kept

pub returns-then-not-is_near : goal.returns-then-not-is_near
returns-then-not-is_near c =
    row_kept

pub returns : goal.returns
returns c =
    let o = c.memo_row-o.ensures in
    let t = traces_from (c.args.level * signals_most) (omega (arith, c.requires.1)) c.note.ensures.0 (omega (arith, c.requires.0, o.1)) c.point.ensures.0 (omega (arith, c.requires.0, o.1)) c.trace.ensures.1 in
    row_written o.0 (omega (arith, c.requires.1)) o.1 c.note.ensures.0 c.note.ensures.1 c.note.ensures.2 c.point.ensures.0 c.point.ensures.1 c.trace.ensures.0 t c.picture.ensures.0 c.picture.ensures.1
