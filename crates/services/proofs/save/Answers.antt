-- `save` meets its contract: nothing else is handed out, so that there is room for that.
use Rattle.verdicts.proofs.Sparing.{spared_all}
use Rattle.services.proofs.save.Goals as goal

pub returns : goal.returns
returns c = rw spared_all at c.save_text.ensures
