-- `belongs` meets its contract: an index belongs where it is taken, whatever cycle is asked for.
use Rattle.tokens.proofs.Results.{handed_on}
use Rattle.services.proofs.Indexing.{belongs_by}
use Rattle.services.proofs.belongs.Goals as goal

pub returns-in_err-holds : goal.returns-in_err-holds
returns-in_err-holds c = rw (handed_on c.from_residual.result _ c.from_residual.ensures.1) (belongs_by _ _ 0 c.in_err-holds.ensures)

pub returns : goal.returns
returns c = belongs_by _ _ 0 c.in_ok-holds.ensures
