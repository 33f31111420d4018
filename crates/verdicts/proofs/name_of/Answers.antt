-- `name_of` meets its contract: a table's name, or a signal's.
use Rattle.verdicts.proofs.name_of.Goals as goal

pub returns-then-table : goal.returns-then-table
returns-then-table c = rw c.if-table.true c.name_at.ensures

pub returns : goal.returns
returns c = rw c.if-table.false c.name_at-2.ensures
