-- `stop_no` meets its contract.
use mathlib.Core.Path.{sym}
use Rattle.words.proofs.Flow.{stop_end, stop_fault}
use Rattle.texts.proofs.stop_no.Goals as goal

pub returns-then-c-eq0 : goal.returns-then-c-eq0
returns-then-c-eq0 c = sym (stop_end c.args.c c.if-c-eq0.true)

pub returns-else-c-eq0 : goal.returns-else-c-eq0
returns-else-c-eq0 c = sym (stop_fault c.args.c c.if-c-eq0.false)
