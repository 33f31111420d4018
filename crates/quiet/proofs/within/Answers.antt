-- `within` meets its contract: not before the start, and not as late as its end.
use native.Mathlib.Omega.{arith}
use borrow.Author.Tests.{ltb-true}
use Rattle.quiet.proofs.within.Goals as goal

pub returns-then-start-t : goal.returns-then-start-t
returns-then-start-t c = λ e. record { from = omega arith; below = omega (arith, ltb-true _ _ e) }
