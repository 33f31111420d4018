-- `version` meets its contract: three tokens that are due, one after the other.
use Rattle.tokens.specs.Written.{bytes}
use Rattle.words.proofs.Flow.{then}
use Rattle.declared.specs.Declarations.{version}
use Rattle.declared.proofs.version.Goals as goal

pub returns : goal.returns
unfolding version bytes
returns c =
    then _ c.due-a.ensures
    (then _ c.due-b.ensures c.due-cursor.ensures)
