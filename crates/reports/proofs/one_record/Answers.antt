-- `one_record` meets its contract: its head, and its offsets.
use Rattle.reports.proofs.Passing.{record_passes}
use Rattle.reports.proofs.one_record.Goals as goal

pub returns : goal.returns
returns c = record_passes _ c.head-h.ensures c.count_offsets-p.ensures.goes
