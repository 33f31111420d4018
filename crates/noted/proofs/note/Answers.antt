-- Each turn takes the next signal.
use native.Mathlib.Omega.{arith}
use lib.ListN.{length-take}
use Rattle.meaning.specs.Bounds.{signals_most}
use Rattle.noted.proofs.Marking.{noting_rest, noting_all}
use Rattle.noted.proofs.note.Goals as goal

pub returns : goal.returns
returns c =
    let y = c.loop-s.invariant in
    let zeros = c.zeros_from-n.ensures in
    let seen = length-take c.zeros_from-n.result c.args.given.now in
    (y.grows, noting_all (noting_rest y (λ i l. zeros.none i (omega (arith, seen, zeros.within))) signals_most) (omega arith))
