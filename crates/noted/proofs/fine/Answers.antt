-- Each turn takes the next table.
use native.Mathlib.Omega.{arith}
use Rattle.noted.proofs.Covering.{fine_all}
use Rattle.noted.proofs.fine.Goals as goal

pub returns : goal.returns
returns c = λ e. fine_all (omega arith) (λ k h. c.loop-k.invariant k (omega arith))
