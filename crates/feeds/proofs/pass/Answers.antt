-- Within this time of the word, or behind it.
use native.Mathlib.Omega.{arith}
use Rattle.feeds.proofs.Passing.{passes_here, passes_same}
use Rattle.feeds.proofs.pass.Goals as goal

pub returns-then-n-this : goal.returns-then-n-this
returns-then-n-this c = passes_here c.if-end-at.false (omega arith) (omega arith) (λ l. omega arith)

pub returns : goal.returns
returns c = passes_same (c.pass_times.ensures c.if-end-at.false) (omega arith)
