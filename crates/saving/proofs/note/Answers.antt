-- `note` meets its contract: nothing, a span that has room, or one that has none.
use native.Mathlib.Omega.{arith}
use Rattle.saving.specs.Found.{span_of}
use Rattle.saving.proofs.Noting.{notes_stored, notes_full}
use Rattle.saving.proofs.note.Goals as goal

pub returns-then-numbers-count : goal.returns-then-numbers-count
returns-then-numbers-count c = let at = c.args in rw c.in-Some.is (notes_full at.count (span_of c.in-Some.h) at.numbers.now (omega arith))

pub returns : goal.returns
returns c = let at = c.args in rw c.in-Some.is (notes_stored at.count (span_of c.in-Some.h) at.numbers.now (omega arith))
