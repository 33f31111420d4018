-- The pins that the test compared are the same.
use native.Mathlib.Omega.{arith}
use mathlib.Core.Path.{sym, ◌∙◌}
use Rattle.std.specs.Cmp.Lexicographic.{same_text}
use Rattle.crossings.proofs.Storing.{same_taken}
use Rattle.crossings.proofs.same.Goals as goal

pub returns : goal.returns
returns c = λ e. (c.if-seen-row.false, same_taken _ _ _ (omega arith) (same_text _ _ (sym e ∙ c.eq.ensures)))
