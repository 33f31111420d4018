-- `number_in` meets its contract: a word, and then the bounds on its number.
use Rattle.meaning.specs.Names.{number_in}
use Rattle.words.proofs.Flow.{then}
use Rattle.words.proofs.number_in.Goals as goal

pub returns : goal.returns
unfolding number_in
returns c = then _ c.word-d.ensures (c.within.ensures _ _ (cc))
