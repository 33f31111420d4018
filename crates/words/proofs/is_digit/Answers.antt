-- `is_digit` meets its contract: the code's test is the definition's.
use mathlib.Core.Path.{refl}
use Rattle.tokens.specs.Bytes.{digit, between}
use Rattle.words.proofs.is_digit.Goals as goal

pub returns : goal.returns
unfolding digit between
returns c = refl
