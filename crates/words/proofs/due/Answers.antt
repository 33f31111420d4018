-- `due` meets its contract: the token ahead is tested and taken, and its place is the answer.
use Rattle.tokens.specs.Written.{same}
use Rattle.meaning.specs.Reader.{due_of}
use Rattle.words.proofs.Flow.{tested}
use Rattle.words.proofs.due.Goals as goal

pub returns : goal.returns
unfolding due_of
returns c =
    let w = c.args.w.now in
    tested c.equal.result (λ t. same t.word w) (λ t. t.at) c.expect.ensures (cc)
