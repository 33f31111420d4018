-- What it asks by itself, then each signal, then the table.
use native.Mathlib.Omega.{arith}
use Rattle.tallies.proofs.Stored.{only_then}
use Rattle.tallies.proofs.Calling.{entering_next, in_place_all, bad_stays}
use Rattle.tallies.proofs.in_place.Goals as goal

pub loop-s-preserved : goal.loop-s-preserved
loop-s-preserved c = entering_next c.loop-s.invariant c.requires.2 (omega (arith, c.requires.4)) c.enter.ensures.0 c.enter.ensures.1

pub returns : goal.returns
returns c =
    let y = c.loop-s.invariant in
    let a = c.ask.ensures in
    let z = c.retable.ensures in
    (only_then a.0.only (only_then y.only z.only), bad_stays y c.requires.2 a.0 z, in_place_all y c.requires.2 _ a.0 a.1 (omega arith) c.requires.4 z)
