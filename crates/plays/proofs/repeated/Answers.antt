-- What the row tells is brought and joined to what is tracked, and no cycle fails.
use native.Mathlib.Omega.{arith}
use mathlib.Core.Path.{refl}
use Rattle.plays.proofs.repeated.Goals as goal

pub bring-q-requires : goal.bring-q-requires
bring-q-requires c = (c.requires.4, omega (arith, c.requires.1), c.requires.2)

pub again-requires : goal.again-requires
again-requires c = (c.requires.0, c.requires.1, c.requires.3, c.requires.4)

pub returns : goal.returns
returns c =
    let q = c.bring-q.ensures in
    let w = c.again.ensures in
    rw c.goes_on.ensures (refl, refl, record { restores = q.restores; pointed = q.pointed; table_is = q.table_is }, w.0, w.1)
