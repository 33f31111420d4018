-- `with_number` meets its contract: a word, and digits behind it.
use Rattle.sections.proofs.Pieces.{adds_both, word_adds, number_adds}
use Rattle.sections.proofs.with_number.Goals as goal

pub returns : goal.returns
returns c =
    adds_both (word_adds c.put-end.ensures) (number_adds c.args.n c.put_number.ensures)
