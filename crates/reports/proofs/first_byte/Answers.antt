-- `first_byte` meets its contract: a word without a byte has none.
use mathlib.Core.Path.{sym}
use lib.ListN.{get_or-eq_default}
use Rattle.reports.proofs.first_byte.Goals as goal

pub returns-else-w-gt0 : goal.returns-else-w-gt0
returns-else-w-gt0 c = sym (get_or-eq_default c.args.w.now 0 c.if-w-gt0.false)
