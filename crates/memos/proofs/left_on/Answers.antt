-- One test.
use mathlib.Core.Path.{sym, refl, ◌∙◌}
use Rattle.tokens.proofs.Bools.{true_false}
use Rattle.memos.proofs.left_on.Goals as goal

pub returns-then-is_marked : goal.returns-then-is_marked
returns-then-is_marked c =
    (λ e. refl, λ e. true_false (sym c.is_marked.ensures ∙ c.if-is_marked.true) e)

pub returns : goal.returns
returns c =
    (λ e. true_false e (sym c.is_marked.ensures ∙ c.if-is_marked.false), λ e. refl)
