-- There is room for a number, so that a set is empty only if its count is 0.
use native.Mathlib.Omega.{arith}
use Rattle.sets.proofs.Sets.{sized, empty_none}
use Rattle.sets.proofs.is_empty.Goals as goal

pub returns : goal.returns
returns c =
    let s = c.args.s in
    let room = sized s c.well_formed.0 in
    empty_none s.n s.v (omega arith)
