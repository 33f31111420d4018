-- `past` meets its contract: the pattern's own name; a word that is no label; what the table has for the label.
use mathlib.Core.Path.{sym, ◌∙◌}
use Rattle.references.proofs.Filling.{counted_less, past_name, past_unknown, past_noted}
use Rattle.references.proofs.past.Goals as goal

pub returns-then-equal : goal.returns-then-equal
returns-then-equal c = past_name _ _ _ _ _ _ (sym c.equal.ensures ∙ c.if-equal.true)

pub returns-then-count-k : goal.returns-then-count-k
returns-then-count-k c = past_unknown _ _ _ _ _ _ (sym c.equal.ensures ∙ c.if-equal.false) _ c.find-k.ensures c.if-count-k.true

pub returns : goal.returns
returns c = past_noted _ _ _ _ _ _ (sym c.equal.ensures ∙ c.if-equal.false) _ c.find-k.ensures c.if-count-k.false (counted_less _ _ c.checked_sub.ensures)
