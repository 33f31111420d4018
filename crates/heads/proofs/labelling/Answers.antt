-- An X is read where the statements stand in a pattern.
use Rattle.tokens.specs.Written.{bytes}
use Rattle.heads.specs.Heads.{Tells}
use Rattle.heads.proofs.Plain.{label_read}
use Rattle.heads.proofs.labelling.Goals as goal

pub returns : goal.returns
unfolding bytes Tells
returns c =
    λ tables book rows given args g.
    label_read c.args.may c.refuse_if-a.ensures c.name-b.ensures c.due-cursor.ensures g
