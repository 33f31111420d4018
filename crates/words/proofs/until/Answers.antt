-- `until` meets its contract: what is not ahead is tested only where reading goes on.
use Rattle.meaning.specs.Reader.{ahead_of}
use Rattle.words.specs.Cursor.{alive, stream}
use Rattle.words.proofs.Ahead.{until_by}
use Rattle.words.proofs.until.Goals as goal

pub returns : goal.returns
returns c =
    until_by (alive c.args.c) (ahead_of c.args.w.now (stream c.args.text.now c.args.c)) c.is.ensures
