-- `word` meets its contract: the token ahead is tested and taken.
use Rattle.meaning.specs.Reader.{is_word, word}
use Rattle.words.proofs.Flow.{tested}
use Rattle.words.proofs.word.Goals as goal

pub returns : goal.returns
unfolding word
returns c = tested c.is_word.result (λ t. is_word t.word) (λ t. t) c.expect.ensures (cc)
