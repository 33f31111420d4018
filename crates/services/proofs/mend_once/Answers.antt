-- `mend_once` meets its contract: what the check refuses is overwritten where the refusal lies in a block or in the list.
use Rattle.saving.specs.Saving.{overwritten}
use Rattle.saving.proofs.Mending.{turn_accepted, turn_beyond, turn_hurt}
use Rattle.services.proofs.mend_once.Goals as goal

pub returns-in_default : goal.returns-in_default
returns-in_default c = turn_accepted _ c.in_default.ensures.1

pub returns-in_default-hurt_span : goal.returns-in_default-hurt_span
returns-in_default-hurt_span c = turn_beyond _ c.in-Err.ensures c.in_default-hurt_span.ensures

pub returns : goal.returns
unfolding overwritten
returns c = turn_hurt _ c.in-Err.ensures c.in-Some.ensures c.overwrite.ensures
