-- At a place with no word, all of the DATA there is left.
use native.Mathlib.Omega.{arith}
use mathlib.Core.Path.{refl}
use Rattle.feeds.proofs.Ahead.{feeds_data}
use Rattle.feeds.proofs.start.Goals as goal

pub returns : goal.returns
returns c =
    λ text cs q us e. feeds_data _ (omega arith) refl e
