-- One test.
use native.Mathlib.Omega.{arith}
use Prim.Native.Nat.{ℕ}
use mathlib.Core.Path.{sym, ap, ◌∙◌}
use borrow.Author.Tests.{ne_eqb}
use Rattle.memos.specs.Tracks.{shown_marks}
use Rattle.memos.proofs.shown_marks.Goals as goal

pub returns-then-g-ne0 : goal.returns-then-g-ne0
unfolding shown_marks
returns-then-g-ne0 c =
    (λ t e. rw (ne_eqb c.args.g 0 c.if-g-ne0.true, shown_marks) c.bit_of.ensures.0, omega (arith, c.bit_of.ensures.2))

pub returns : goal.returns
returns c =
    (λ t e. e ∙ ap (λ (g : ℕ). shown_marks g t) (sym c.if-g-ne0.false), c.requires)
