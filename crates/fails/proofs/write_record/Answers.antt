-- `write_record` meets its contract: its offsets, or without any the cycle of the reference itself.
use Rattle.references.specs.References.{past_by}
use Rattle.references.specs.Filled.{noted}
use Rattle.fails.proofs.Judging.{at_word}
use Rattle.fails.proofs.Writing.{writes_some, writes_one}
use Rattle.fails.proofs.write_record.Goals as goal

-- src/lib.rt:350:9
pub returns-then-w-at : goal.returns-then-w-at
returns-then-w-at c = writes_some _ _ _ c.past-before.result c.head-h.ensures (at_word (past_by c.args.name.now (noted c.args.text.now c.args.labels.now c.args.count c.args.table.now)) c.past-before.ensures c.bytes_of.ensures) (rw c.unwrap_or.ensures at c.cycle_at-start.ensures) c.write_offsets-w.ensures c.if-w-at.true

-- src/lib.rt:313:1
pub returns : goal.returns
returns c = writes_one _ _ _ c.past-before.result c.head-h.ensures (at_word (past_by c.args.name.now (noted c.args.text.now c.args.labels.now c.args.count c.args.table.now)) c.past-before.ensures c.bytes_of.ensures) (rw c.unwrap_or.ensures at c.cycle_at-start.ensures) c.write_offsets-w.ensures c.if-w-at.false c.put-n.ensures
