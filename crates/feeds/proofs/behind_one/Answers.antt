-- The next character, the end of the word, or its first character again.
use Prim.Native.Nat.{◌-◌}
use native.Mathlib.Omega.{arith}
use native.Mathlib.Nat.{zero-mul}
use Rattle.feeds.proofs.Passing.{passes_here, passes_once, passes_again, passes_one}
use Rattle.feeds.proofs.behind_one.Goals as goal

pub returns-then-end-at : goal.returns-then-end-at
returns-then-end-at c = record { left = λ text cs x h. absurd (omega arith) }

pub returns-then-second-end : goal.returns-then-second-end
returns-then-second-end c = passes_one (passes_here c.if-end-at.false (omega arith) (omega arith) (λ l. omega arith))

pub returns-then-left-eq0 : goal.returns-then-left-eq0
returns-then-left-eq0 c = passes_one (passes_once c.if-end-at.false c.if-left-eq0.true (omega arith))

pub returns : goal.returns
returns c =
    let feed = c.args.feed in
    passes_one (passes_again c.if-end-at.false 0 0 (omega (arith, zero-mul (feed.end - feed.from))) (omega arith) (omega arith) (λ b. b))
