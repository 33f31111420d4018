-- The pins that the test compared are the same.
use mathlib.Core.Path.{sym, ◌∙◌}
use Rattle.std.specs.Cmp.Lexicographic.{same_text}
use Rattle.steps.proofs.Copying.{alike_taken}
use Rattle.steps.proofs.same_pins.Goals as goal

pub returns : goal.returns
returns c = λ e. alike_taken _ _ _ (same_text _ _ (sym e ∙ c.eq.ensures))
