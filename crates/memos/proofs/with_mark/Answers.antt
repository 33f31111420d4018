-- The mark's digit is joined.
use Rattle.memos.proofs.Marking.{mark_more}
use Rattle.memos.proofs.with_mark.Goals as goal

pub returns : goal.returns
returns c =
    rw c.bit_of.ensures.0 (mark_more _ _ c.requires.0 c.requires.1)
