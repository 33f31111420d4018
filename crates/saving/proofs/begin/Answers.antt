-- `begin` meets its contract: a block begins outside all braces, unless one has begun.
use Rattle.saving.proofs.Scanning.{begin_here, begin_on}
use Rattle.saving.proofs.begin.Goals as goal

pub returns-then-s : goal.returns-then-s
returns-then-s c = let at = c.args in begin_here at.q at.s at.p c.if-s.true

pub returns : goal.returns
returns c = let at = c.args in begin_on at.q at.s at.p c.if-s.false
