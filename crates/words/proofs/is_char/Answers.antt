-- The code's test is the definition's.
use mathlib.Core.Path.{refl}
use Rattle.tokens.specs.Bytes.{letter, digit, between}
use Rattle.meaning.specs.Timing.{wave_char}
use Rattle.words.proofs.is_char.Goals as goal

pub returns : goal.returns
unfolding wave_char letter digit between
returns c = refl
