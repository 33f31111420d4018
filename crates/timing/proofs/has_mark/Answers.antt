-- `has_mark` meets its contract: a character that is too large has no mark.
use borrow.Author.Tests.{lt-ltb, le-ltb}
use Rattle.timing.specs.Marks.{chars_most}
use Rattle.timing.proofs.has_mark.Goals as goal

pub returns-then-b-lt-CHARS : goal.returns-then-b-lt-CHARS
returns-then-b-lt-CHARS c = rw (lt-ltb c.args.b chars_most c.if-b-lt-CHARS.true)

pub returns-else-b-lt-CHARS : goal.returns-else-b-lt-CHARS
returns-else-b-lt-CHARS c = rw (le-ltb c.args.b chars_most c.if-b-lt-CHARS.false)
