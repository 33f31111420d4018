-- Each signal's character is in its own place, so that `#` stands there if some signal has it.
use mathlib.Core.Path.{◌∙◌}
use Rattle.measures.proofs.Marked.{mark_given}
use Rattle.measures.proofs.has_mark.Goals as goal

pub returns : goal.returns
returns c = λ a g. c.holds.ensures ∙ mark_given g
