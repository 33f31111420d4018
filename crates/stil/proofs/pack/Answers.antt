-- `pack` meets its contract: a place within a text, or another.
use Rattle.stil.proofs.Handing.{packed_near, packed_far}
use Rattle.stil.proofs.pack.Goals as goal

pub returns-then-refusal-le-TEXT_MOST : goal.returns-then-refusal-le-TEXT_MOST
returns-then-refusal-le-TEXT_MOST c = packed_near _ _ c.if-refusal-le-TEXT_MOST.true

pub returns : goal.returns
returns c = packed_far _ _ c.if-refusal-le-TEXT_MOST.false
