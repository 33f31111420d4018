-- `step` meets its contract: behind the token ahead the cursor stands at the next one; where there is none, reading is refused as the stream stops.
use mathlib.Core.Path.{refl}
use borrow.Author.Tests.{eq-eqb, ne_eqb, lt-ltb, le-ltb}
use Rattle.words.proofs.Flow.{stop_end, stop_fault, stays, taken, halted}
use Rattle.words.proofs.step.Goals as goal

pub returns-then-c-ne0 : goal.returns-then-c-ne0
returns-then-c-ne0 c = stays (ne_eqb _ _ c.if-c-ne0.true)

pub returns-then-at-end : goal.returns-then-at-end
returns-then-at-end c = taken (eq-eqb _ _ c.if-c-ne0.false) (lt-ltb _ _ c.if-at-end.true) c.cursor_at.ensures

pub returns-then-fault-eq0 : goal.returns-then-fault-eq0
returns-then-fault-eq0 c =
    let on = eq-eqb _ _ c.if-c-ne0.false in
    halted on (le-ltb _ _ c.if-at-end.false) (stop_end c.args.c c.if-fault-eq0.true) refl

pub returns-else-fault-eq0 : goal.returns-else-fault-eq0
returns-else-fault-eq0 c =
    let on = eq-eqb _ _ c.if-c-ne0.false in
    halted on (le-ltb _ _ c.if-at-end.false) (stop_fault c.args.c c.if-fault-eq0.false) (ne_eqb _ _ c.if-fault-eq0.false)
