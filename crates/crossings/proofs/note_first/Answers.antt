-- A row that has a cycle, or one that gets it.
use Rattle.crossings.specs.Rows.{cycle_in}
use Rattle.crossings.proofs.Storing.{first_seen_lem, first_unseen}
use Rattle.crossings.proofs.note_first.Goals as goal

pub returns-then-seen-row-ne0 : goal.returns-then-seen-row-ne0
returns-then-seen-row-ne0 c = first_seen_lem (cycle_in c.args.signals c.args.place c.args.table c.args.values.now 0) c.if-seen-row-ne0.true

pub returns : goal.returns
returns c = first_unseen _ c.if-seen-row-ne0.false c.store.ensures
