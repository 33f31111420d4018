-- Every sample is answered as it says: the definitions compute them.
use mathlib.Core.Path.{◌≡◌, refl}
use Rattle.meaning.specs.Open.{everything}
use Rattle.meaning.specs.Samples.{asked, answered, edges, between, refusals, signs, samples, told}

pub all_told : asked samples ≡ answered samples
unfolding everything asked answered samples edges between refusals told
all_told = refl

pub signs_told : asked signs ≡ answered signs
unfolding everything asked answered signs told
signs_told = refl
