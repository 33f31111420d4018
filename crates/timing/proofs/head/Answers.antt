-- `head` meets its contract: token by token.
use Rattle.tokens.specs.Written.{bytes}
use Rattle.timing.specs.Parts.{head_then}
use Rattle.timing.proofs.Making.{first, first_then}
use Rattle.timing.proofs.head.Goals as goal

pub returns : goal.returns
unfolding head_then bytes
returns c = λ k. first_then _ c.due-a.ensures (first_then _ c.due-b.ensures (first_then _ c.quoted-t.ensures (first_then _ c.due-d.ensures (first_then _ c.due-e.ensures (first _ c.due-cursor.ensures)))))
