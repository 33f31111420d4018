-- The assignments of a V, and then its cycle.
use native.Mathlib.Omega.{arith}
use Rattle.tallies.proofs.Stored.{only_then}
use Rattle.grants.proofs.vector.Goals as goal

pub assign-requires : goal.assign-requires
assign-requires c = let p = c.requires in (p.0, p.1)

pub cycle-requires : goal.cycle-requires
cycle-requires c =
    let p = c.requires in
    (omega (arith, p.0, c.assign.ensures.0.long), p.2, p.3)

pub returns : goal.returns
returns c =
    let assign = c.assign in
    let cycle = c.cycle in
    (only_then assign.ensures.0 cycle.ensures.0, λ tabs a m g. (_, assign.ensures.1 _ a g, cycle.ensures.1 tabs m))
