-- `fold` meets its contract: nothing else is handed out.
use Rattle.verdicts.proofs.Sparing.{spared_all}
use Rattle.flats.proofs.fold.Goals as goal

pub returns : goal.returns
returns c = rw spared_all at c.fold_text.ensures
