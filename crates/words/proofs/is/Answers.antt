-- `is` meets its contract: where a token is ahead, the cursor holds its bytes.
use Rattle.words.proofs.Ahead.{ahead_by}
use Rattle.words.proofs.is.Goals as goal

pub returns : goal.returns
returns c =
    ahead_by c.args.text.now c.args.c c.args.w.now c.bytes_of.ensures c.equal.ensures
