-- `reserved_middle` meets its contract, as `reserved_short` does.
use mathlib.Core.Path.{◌∙◌}
use native.Mathlib.Omega.{arith}
use Rattle.tokens.specs.Written.{bytes}
use Rattle.meaning.specs.Names.{reserved, among}
use Rattle.words.proofs.Words.{of_length, reserved_of, or_both, or_last}
use Rattle.words.proofs.reserved_middle.Goals as goal

pub returns-in-5 : goal.returns-in-5
unfolding of_length among reserved bytes
returns-in-5 c =
    or_both c.equal.ensures (or_both c.equal-in-5.ensures (or_last c.equal-in-5-2.ensures))
    ∙ reserved_of 5 _ c.in-5.is

pub returns-in-6 : goal.returns-in-6
unfolding of_length among reserved bytes
returns-in-6 c =
    or_both c.equal-in-6.ensures (or_last c.equal-in-6-2.ensures)
    ∙ reserved_of 6 _ c.in-6.is

pub returns-in_default : goal.returns-in_default
unfolding of_length among reserved bytes
returns-in_default c =
    or_both c.equal-in_default.ensures (or_both c.equal-in_default-2.ensures (or_last c.equal-in_default-3.ensures))
    ∙ reserved_of 7 _ (omega arith)
