-- No signal before s has `#` in the Shift; the first that has one gives T.
use native.Mathlib.Omega.{arith}
use Rattle.arguments.proofs.Counted.{turns_none, turns_more}
use Rattle.arguments.proofs.shift_turns.Goals as goal

pub returns-then-row-s-ne0 : goal.returns-then-row-s-ne0
returns-then-row-s-ne0 c =
    let loop = c.loop-s in
    λ text b xs uses sup.
    rw c.saturating_sub.ensures (turns_more uses sup loop.s (omega arith) c.if-row-s-ne0.true (c.supply-n.ensures text xs sup))

pub returns : goal.returns
returns c = λ text b xs uses sup. turns_none uses sup c.loop-s.s (omega arith) (c.loop-s.invariant b uses)
