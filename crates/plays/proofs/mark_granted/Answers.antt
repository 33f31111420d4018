-- One test.
use mathlib.Core.Path.{sym, ◌∙◌}
use Rattle.tokens.proofs.Bools.{true_false}
use Rattle.plays.proofs.mark_granted.Goals as goal

pub returns-then-not-is_marked : goal.returns-then-not-is_marked
returns-then-not-is_marked c =
    λ e h. true_false h (sym c.is_marked.ensures ∙ c.if-not-is_marked.true)

pub returns : goal.returns
returns c =
    λ e h tabs w. sym (c.fits.ensures tabs w) ∙ e
