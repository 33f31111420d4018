-- No statement: every number is 0.
use mathlib.Core.Path.{refl}
use native.Mathlib.Nat.{mul-zero}
use native.Mathlib.Omega.{arith}
use Rattle.meaning.specs.Body.{depth}
use Rattle.meaning.specs.Run.{size, turns_of, shift_of, cycles}
use Rattle.measures.proofs.nothing.Goals as goal

pub returns : goal.returns
unfolding depth size cycles turns_of shift_of
returns c =
    record { depth_is = refl; size_is = refl; cycles_is = λ t. omega (arith, mul-zero t) }
