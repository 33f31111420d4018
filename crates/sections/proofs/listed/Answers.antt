-- `listed` meets its contract.
use mathlib.Core.Path.{sym}
use Rattle.sections.proofs.Laws.{none_listed, all_listed}
use Rattle.sections.proofs.listed.Goals as goal

pub returns-then-cycles-gt-LISTED : goal.returns-then-cycles-gt-LISTED
returns-then-cycles-gt-LISTED c = sym (none_listed c.if-cycles-gt-LISTED.true)

pub returns-else-cycles-gt-LISTED : goal.returns-else-cycles-gt-LISTED
returns-else-cycles-gt-LISTED c = sym (all_listed c.if-cycles-gt-LISTED.false)
