-- Nothing to do, or the rows again.
use native.Mathlib.Omega.{arith}
use mathlib.Core.Path.{refl}
use Rattle.steps.proofs.repeated.Goals as goal

pub returns-then-cycles-eq0 : goal.returns-then-cycles-eq0
returns-then-cycles-eq0 c = record { none = λ e. (refl, refl); again = λ h. absurd (omega arith); long = refl }

pub again-requires : goal.again-requires
again-requires c =
    let some = c.requires.1 (omega arith) in
    (some.reached, some.none_left, omega arith, omega arith, some.few, some.room)

pub returns : goal.returns
returns c = record { none = λ e. absurd (omega arith); again = λ h. c.again.ensures; long = c.again.ensures.long }
