-- One test.
use native.Mathlib.Omega.{arith}
use mathlib.Core.Path.{refl}
use Rattle.memos.proofs.Rows.{writes_none}
use Rattle.plays.proofs.mark_turns.Goals as goal

pub returns-then-t-eq0 : goal.returns-then-t-eq0
returns-then-t-eq0 c =
    (writes_none, λ e. refl, λ some long turns. absurd (omega (arith, c.if-t-eq0.true)))

pub returns : goal.returns
returns c =
    (c.mark.ensures.0, λ e. absurd (c.if-t-eq0.false e), λ some long turns. c.mark.ensures.1 some long)
