-- `holds` meets its contract: refused as the text is; 21 for other bytes; or the pattern that holds the cycle, if any.
use mathlib.Core.Path.{ap}
use mathlib.Core.Bool.{not}
use Rattle.tokens.proofs.Results.{handed_on}
use Rattle.services.proofs.Indexing.{holds_refused, holds_other, holds_told, span_front}
use Rattle.services.proofs.holds.Goals as goal

pub returns-in_err-x : goal.returns-in_err-x
returns-in_err-x c = rw (handed_on c.from_residual.result _ c.from_residual.ensures.1) (holds_refused _ _ _ c.in_err-x.ensures)

pub returns-then-not-equal : goal.returns-then-not-equal
returns-then-not-equal c = holds_other c.in_ok-x.ensures _ (span_front _ c.in_ok-x.x.length c.bytes_of.ensures) c.equal.ensures (ap not c.if-not-equal.true)

pub returns : goal.returns
returns c = holds_told c.in_ok-x.ensures _ (span_front _ c.in_ok-x.x.length c.bytes_of.ensures) c.equal.ensures (ap not c.if-not-equal.false)
