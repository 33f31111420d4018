-- A Loop opens a body, and has from 1 to the most turns.
use Rattle.tokens.specs.Written.{bytes}
use Rattle.heads.specs.Heads.{Tells}
use Rattle.heads.proofs.Plain.{loop_read}
use Rattle.heads.proofs.looping.Goals as goal

pub returns : goal.returns
unfolding bytes Tells
returns c =
    λ tables book rows given args.
    loop_read c.args.d c.refuse_if-a.ensures c.number_in-n.ensures c.due-cursor.ensures
