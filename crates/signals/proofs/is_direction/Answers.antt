-- `is_direction` meets its contract: three words, one test for each.
use Rattle.tokens.specs.Written.{bytes}
use Rattle.meaning.specs.Names.{among}
use Rattle.meaning.specs.Signals.{directions}
use Rattle.words.proofs.Words.{or_both, or_last}
use Rattle.signals.proofs.is_direction.Goals as goal

pub returns : goal.returns
unfolding among directions bytes
returns c =
    let equal' = c.equal in
    let equal2' = c.equal-2 in
    or_both equal'.ensures (or_both equal2'.ensures (or_last c.equal-3.ensures))
