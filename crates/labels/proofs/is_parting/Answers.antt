-- `is_parting` meets its contract: only a token of one byte can be one of the three.
use Rattle.labels.proofs.Scanning.{parting_not, parting_one}
use Rattle.labels.proofs.is_parting.Goals as goal

pub returns-then-w-ne1 : goal.returns-then-w-ne1
returns-then-w-ne1 c = parting_not _ c.if-w-ne1.true

pub returns : goal.returns
returns c = parting_one _ c.if-w-ne1.false
