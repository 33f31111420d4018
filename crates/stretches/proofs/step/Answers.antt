-- `step` meets its contract: the first row, the same once more, or another.
use native.Mathlib.Omega.{arith}
use mathlib.Core.Path.{sym, ◌∙◌}
use Rattle.stretches.proofs.Taking.{follows_first, follows_same}
use Rattle.stretches.proofs.step.Goals as goal

pub returns-then-f-eq0 : goal.returns-then-f-eq0
returns-then-f-eq0 c = follows_first _ _ _ c.args.f _ _ c.if-f-eq0.true

pub returns-then-same_row : goal.returns-then-same_row
returns-then-same_row c = follows_same _ _ _ c.args.f _ _ (omega arith) (sym c.same_row.ensures ∙ c.if-same_row.true)

pub next-requires : goal.next-requires
next-requires c = (c.requires.0, c.requires.1, omega arith, sym c.same_row.ensures ∙ c.if-same_row.false)

pub returns : goal.returns
returns c = c.next.ensures
