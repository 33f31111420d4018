-- `byte_at` meets its contract: past the end a list reads as 0.
use mathlib.Core.Path.{sym}
use lib.ListN.{get_or-eq_default}
use Rattle.tokens.proofs.byte_at.Goals as goal

pub returns-else-at-text : goal.returns-else-at-text
returns-else-at-text c = sym (get_or-eq_default c.args.text.now 0 c.if-at-text.false)
