-- The row is written over its own place.
use native.Mathlib.Omega.{arith}
use Rattle.measures.proofs.Kept.{row_kept}
use Rattle.measures.proofs.keep_row.Goals as goal

pub returns : goal.returns
returns c =
    let pre = c.requires in
    row_kept c.args.rows.now c.args.row.now c.copy_from_slice.new.self c.args.i _ (omega arith) c.copy_from_slice.ensures.after pre.0 pre.1 pre.2
