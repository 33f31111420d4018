use mathlib.Core.Path.{sym, ◌∙◌}
use Rattle.signals.proofs.Rows.{no_row, row_read}
use Rattle.signals.proofs.set_at.Goals as goal

pub returns-then-i-ge-NAMES : goal.returns-then-i-ge-NAMES
returns-then-i-ge-NAMES c = c.nothing.ensures ∙ sym (no_row c.args.lists.now c.args.i c.requires c.if-i-ge-NAMES.true)

pub returns : goal.returns
returns c = rw c.copy_from_slice.ensures.after (row_read c.args.lists.now c.args.i)
