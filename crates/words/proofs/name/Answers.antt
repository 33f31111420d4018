-- `name` meets its contract: a word, and then the test on it.
use mathlib.Core.Path.{refl}
use Rattle.meaning.specs.Names.{name}
use Rattle.words.proofs.Flow.{then, checked, given}
use Rattle.words.proofs.name.Goals as goal

pub returns : goal.returns
unfolding name
returns c = then _ c.word-r.ensures (then _ (checked c.refuse_if.ensures (cc) refl) given)
