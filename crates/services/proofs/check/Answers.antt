-- `check` meets its contract: what is told of the text is the service's answer.
use Rattle.tokens.proofs.Results.{handed_on}
use Rattle.services.proofs.Answering.{check_refused, check_given}
use Rattle.services.proofs.check.Goals as goal

pub returns-in_err-j : goal.returns-in_err-j
returns-in_err-j c = rw (handed_on c.from_residual.result _ c.from_residual.ensures.1) (check_refused _ c.in_err-j.ensures)

pub returns : goal.returns
returns c = check_given c.in_ok-j.ensures
