-- Shift is a statement with one V in it, which a turn plays once.
use mathlib.Core.Path.{refl}
use native.Mathlib.Nat.{mul-one}
use native.Mathlib.Omega.{arith}
use Rattle.meaning.specs.Body.{depth}
use Rattle.meaning.specs.Run.{size, turns_of, shift_of, cycles}
use Rattle.measures.proofs.shift.Goals as goal

pub returns : goal.returns
unfolding depth size cycles turns_of shift_of
returns c =
    λ p a. record { depth_is = refl; size_is = refl; cycles_is = λ t. omega (arith, mul-one t) }
