-- `name_bytes` meets its contract: past the table's end the end of a name reads as 0, and there are no bytes before it.
use Prim.Native.Nat.{◌+◌, ◌*◌, ◌-◌}
use mathlib.Core.Path.{◌≡◌}
use native.Mathlib.Omega.{arith}
use lib.ListN.{get_or, get_or-eq_default}
use Rattle.words.proofs.name_bytes.Goals as goal

pub returns : goal.returns
returns c =
    let places = c.args.places.now in
    let i = c.args.i in
    let none : 0 - get_or places (i * 2) 0 ≡ 0 = omega arith in
    rw (get_or-eq_default places 0 {n = i * 2 + 1} (omega arith), none)
