-- `lacks` meets its contract, by a difference, since the sum of a made-up state may not fit.
use mathlib.Core.Path.{sym}
use Rattle.intake.proofs.Bytes.{lacks_none, lacks_over, lacks_by}
use Rattle.intake.proofs.lacks.Goals as goal

pub returns-then-n-eq0 : goal.returns-then-n-eq0
returns-then-n-eq0 c = sym (lacks_none _ _ _ c.if-n-eq0.true)

pub returns-then-room-stored : goal.returns-then-room-stored
returns-then-room-stored c = sym (lacks_over _ _ _ c.if-n-eq0.false c.if-room-stored.true)

pub returns : goal.returns
returns c = lacks_by _ _ _ c.if-n-eq0.false c.if-room-stored.false
