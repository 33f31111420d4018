-- The table's name is looked up by its number.
use Rattle.tokens.specs.Written.{bytes}
use Rattle.heads.specs.Heads.{Tells}
use Rattle.heads.proofs.Plain.{table_chosen}
use Rattle.heads.proofs.chosen.Goals as goal

pub returns : goal.returns
unfolding bytes Tells
returns c =
    λ tabs e book rows given args.
    table_chosen c.args.tplaces.now c.args.tables tabs e c.old_name-x.ensures c.due-cursor.ensures
