-- A Shift opens a body where one may stand.
use Rattle.tokens.specs.Written.{bytes}
use Rattle.heads.specs.Heads.{Tells}
use Rattle.heads.proofs.Plain.{shift_read}
use Rattle.heads.proofs.shifting.Goals as goal

pub returns : goal.returns
unfolding bytes Tells
returns c =
    λ tables book rows given args.
    shift_read c.args.d c.args.may c.refuse_if-a.ensures c.refuse_if-b.ensures c.due-cursor.ensures
