-- The table's byte is stored.
use Rattle.tallies.proofs.Rows.{chosen}
use Rattle.tallies.proofs.choose.Goals as goal

pub returns : goal.returns
returns c = (c.store.ensures.only, chosen c.store.ensures c.requires.1)
