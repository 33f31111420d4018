-- A digit of the number.
use Rattle.memos.proofs.Marking.{marked_shifted}
use Rattle.memos.proofs.is_marked.Goals as goal

pub returns : goal.returns
returns c =
    marked_shifted c.args.m c.args.t
