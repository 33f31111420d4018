-- `direction` meets its contract: the token ahead is tested before it is taken.
use Rattle.tokens.specs.Tokens.{Tok}
use Rattle.meaning.specs.Names.{among, due_among}
use Rattle.meaning.specs.Signals.{directions}
use Rattle.words.proofs.Flow.{tested}
use Rattle.signals.proofs.direction.Goals as goal

pub returns : goal.returns
unfolding due_among
returns c =
    let is-direction' = c.is_direction in tested is-direction'.result (λ (t : Tok). among directions t.word) (λ (t : Tok). t.at) c.expect.ensures (cc)
