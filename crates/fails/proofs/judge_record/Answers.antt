-- `judge_record` meets its contract: 24 for the reference, or by its offsets.
use Rattle.references.specs.References.{past_by}
use Rattle.references.specs.Filled.{noted}
use Rattle.fails.proofs.Judging.{at_word, judges_out, judges_in}
use Rattle.fails.proofs.judge_record.Goals as goal

-- src/lib.rt:167:9
pub returns-then-is_none-p : goal.returns-then-is_none-p
returns-then-is_none-p c = judges_out _ _ _ c.past-before.result c.is_none.result c.is_none.ensures c.head-h.ensures c.count_offsets-p.ensures (at_word (past_by c.args.name.now (noted c.args.text.now c.args.labels.now c.args.count c.args.table.now)) c.past-before.ensures c.bytes_of.ensures) c.left_behind-left.ensures c.if-is_none-p.true

-- src/lib.rt:133:1
pub returns : goal.returns
returns c = judges_in _ _ _ c.past-before.result c.is_none.result c.is_none.ensures c.head-h.ensures c.count_offsets-p.ensures (at_word (past_by c.args.name.now (noted c.args.text.now c.args.labels.now c.args.count c.args.table.now)) c.past-before.ensures c.bytes_of.ensures) c.left_behind-left.ensures c.if-is_none-p.false c.or_one.ensures
