-- The signal's row of marks, lent alone.
use Rattle.pins.proofs.Advancing.{having_row}
use Rattle.pins.proofs.in_word.Goals as goal

pub returns : goal.returns
returns c = having_row c.fine.ensures
