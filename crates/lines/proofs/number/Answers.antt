-- `number` meets its contract: it is the reader of numbers up to the largest of 64 bits.
use Rattle.lines.proofs.Reading.{read_is}
use Rattle.lines.proofs.number.Goals as goal

pub returns : goal.returns
returns c = read_is _ _ c.number_up_to.ensures
