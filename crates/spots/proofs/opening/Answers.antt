-- `opening` meets its contract: token by token.
use Rattle.tokens.specs.Written.{bytes}
use Rattle.spots.proofs.Tabling.{opening_follows}
use Rattle.spots.proofs.opening.Goals as goal

pub returns : goal.returns
unfolding bytes
returns c = opening_follows c.cursor_at-c.ensures c.due-a.ensures c.due-b.ensures c.due.ensures
