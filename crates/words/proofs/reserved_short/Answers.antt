-- `reserved_short` meets its contract: only the reserved words of w's length can be w, and those are the ones that each arm compares it with.
use mathlib.Core.Path.{◌∙◌}
use native.Mathlib.Omega.{arith}
use Rattle.tokens.specs.Written.{bytes}
use Rattle.meaning.specs.Names.{reserved, among}
use Rattle.words.proofs.Words.{of_length, reserved_of, or_both, or_last}
use Rattle.words.proofs.reserved_short.Goals as goal

pub returns-in-1 : goal.returns-in-1
unfolding of_length among reserved bytes
returns-in-1 c =
    or_both c.equal.ensures
    (or_both c.equal-in-1.ensures (or_both c.equal-in-1-2.ensures (or_last c.equal-in-1-3.ensures)))
    ∙ reserved_of 1 _ c.in-1.is

pub returns-in-2 : goal.returns-in-2
unfolding of_length among reserved bytes
returns-in-2 c = or_last c.equal-in-2.ensures ∙ reserved_of 2 _ c.in-2.is

pub returns-in-3 : goal.returns-in-3
unfolding of_length among reserved bytes
returns-in-3 c = or_last c.equal-in-3.ensures ∙ reserved_of 3 _ c.in-3.is

pub returns-in-4 : goal.returns-in-4
unfolding of_length among reserved bytes
returns-in-4 c =
    or_both c.equal-in-4.ensures (or_both c.equal-in-4-2.ensures (or_last c.equal-in-4-3.ensures))
    ∙ reserved_of 4 _ c.in-4.is

pub returns-in_default : goal.returns-in_default
unfolding of_length among reserved bytes
returns-in_default c = reserved_of 0 c.args.w.now (omega arith)
