-- The table's digit, or none.
use native.Mathlib.Omega.{arith}
use borrow.Author.Tests.{lt-ltb, le-ltb}
use Rattle.memos.specs.Tracks.{shown_marks}
use Rattle.memos.proofs.table_mark.Goals as goal

pub returns-then-t-lt-ASSIGNED : goal.returns-then-t-lt-ASSIGNED
unfolding shown_marks
returns-then-t-lt-ASSIGNED c =
    (rw (lt-ltb c.args.t 8 c.if-t-lt-ASSIGNED.true, shown_marks) c.bit_of.ensures.0, omega (arith, c.bit_of.ensures.2))

pub returns : goal.returns
unfolding shown_marks
returns c =
    (rw (le-ltb c.args.t 8 (omega arith), shown_marks), omega arith)
