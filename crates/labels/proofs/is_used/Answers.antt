-- `is_used` meets its contract: a word is used where a label has it, or where it is the burst's name.
use Rattle.labels.proofs.Scanning.{used_by_lem}
use Rattle.labels.proofs.is_used.Goals as goal

pub returns : goal.returns
returns c = used_by_lem _ _ _ _ _ _ c.find-i.ensures c.equal.ensures
