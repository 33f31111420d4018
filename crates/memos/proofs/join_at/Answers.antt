-- One place is written.
use mathlib.Core.Path.{refl}
use Rattle.memos.proofs.join_at.Goals as goal

pub returns : goal.returns
returns c =
    (c.join.result, refl, c.join.ensures.0, rw c.marks.ensures.0 at c.join.ensures.1)
