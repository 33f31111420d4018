-- `name` meets its contract: what is told of the text is the service's answer.
use mathlib.Core.Path.{◌∙◌}
use Rattle.tokens.proofs.Results.{handed_on}
use Rattle.services.proofs.Answering.{name_refused, name_given, located_as}
use Rattle.services.proofs.name.Goals as goal

pub returns-in_err-j : goal.returns-in_err-j
returns-in_err-j c = rw (handed_on c.from_residual.result _ c.from_residual.ensures.1) (name_refused _ c.in_err-j.ensures _ _)

pub returns : goal.returns
returns c = rw c.ok_or.ensures.value (located_as c.in_ok-j.j.name ∙ name_given c.in_ok-j.ensures)
