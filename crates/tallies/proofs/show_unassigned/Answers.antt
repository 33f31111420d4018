-- It is shown there, or not.
use mathlib.Core.Path.{sym, ◌∙◌}
use mathlib.Core.Option.{none}
use mathlib.Core.Bool.{true≢false}
use Rattle.tallies.proofs.Grown.{under_off, more_none}
use Rattle.tallies.proofs.show_unassigned.Goals as goal

pub returns-then-byte-ne0 : goal.returns-then-byte-ne0
returns-then-byte-ne0 c = (c.need_table.ensures.0, λ e q. c.need_table.ensures.1.needs q)

pub returns-else-byte-ne0 : goal.returns-else-byte-ne0
returns-else-byte-ne0 c = (more_none, λ e q. absurd (true≢false (sym e ∙ under_off c.args.sums.now c.args.from c.args.s none (sym c.byte.ensures ∙ c.if-byte-ne0.false))))
