-- `head` meets its contract: token by token.
use Rattle.tokens.specs.Written.{bytes}
use Rattle.spots.proofs.Tabling.{head_follows}
use Rattle.spots.proofs.head.Goals as goal

pub returns : goal.returns
unfolding bytes
returns c = λ k it us x. head_follows k it us x c.due-a.ensures c.due-b.ensures c.quoted-t.ensures c.due-d.ensures c.due-e.ensures c.due-cursor.ensures
