-- `is_labelling` meets its contract: two words are compared.
use Rattle.tokens.specs.Written.{bytes}
use Rattle.words.proofs.Words.{or_both}
use Rattle.meaning.specs.Labels.{labelling}
use Rattle.labels.proofs.is_labelling.Goals as goal

pub returns : goal.returns
unfolding labelling bytes
returns c = or_both c.equal.ensures c.equal-2.ensures
