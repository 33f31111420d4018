-- `mend_copy` meets its contract: the part that is mended is the text, and stands at the copy's front.
use Rattle.services.proofs.Mending.{copied_part, copy_mended}
use Rattle.services.proofs.mend_copy.Goals as goal

pub returns : goal.returns
returns c = copy_mended _ (copied_part c.put.ensures) c.mend.ensures
