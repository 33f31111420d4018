-- `hurt_span` meets its contract: the number tells whether a block or an entry of the list is looked for.
use mathlib.Core.Path.{◌∙◌}
use Rattle.saving.proofs.Scanning.{hurt_block, hurt_entry, hurt_nothing}
use Rattle.saving.proofs.hurt_span.Goals as goal

pub returns-then-no : goal.returns-then-no
returns-then-no c = let at = c.args in c.block_at.ensures ∙ hurt_block at.text.now at.refusal.no at.refusal.place c.if-no.true

pub returns-then-no-eq15 : goal.returns-then-no-eq15
returns-then-no-eq15 c = let at = c.args in c.entry_at.ensures ∙ hurt_entry at.text.now at.refusal.no at.refusal.place c.if-no.false c.if-no-eq15.true

pub returns : goal.returns
returns c = let at = c.args in hurt_nothing at.text.now at.refusal.no at.refusal.place c.if-no.false c.if-no-eq15.false
