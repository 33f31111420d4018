-- `turn` meets its contract: the row in hand stays where it came again, and is put there else.
use Rattle.stretches.proofs.Taking.{takes_again, takes_put}
use Rattle.stretches.proofs.turn.Goals as goal

pub returns-then-g-gt1 : goal.returns-then-g-gt1
returns-then-g-gt1 c = takes_again _ _ c.step-g.ensures c.if-g-gt1.true

pub returns : goal.returns
returns c = takes_put _ _ c.step-g.ensures c.requires.1 c.requires.0.long c.put.ensures
