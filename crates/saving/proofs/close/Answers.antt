-- `close` meets its contract: outside all braces it matches nothing, and the block's first brace ends the block.
use Rattle.saving.proofs.Scanning.{close_outside, close_inside}
use Rattle.saving.proofs.close.Goals as goal

pub returns-then-s-eq0 : goal.returns-then-s-eq0
returns-then-s-eq0 c = let at = c.args in close_outside at.q at.s c.if-s-eq0.true

pub returns : goal.returns
returns c = let at = c.args in close_inside at.q at.s c.if-s-eq0.false
