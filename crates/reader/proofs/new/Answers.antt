-- `new` meets its contract: the position of a text's start.
use Rattle.columns.specs.Columns.{position, onward}
use Rattle.reader.proofs.new.Goals as goal

pub returns : goal.returns
unfolding position onward
returns c = rw c.start.ensures
