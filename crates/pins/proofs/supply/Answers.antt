-- Each turn takes the next signal, and writes the feed of its argument where it has one.
use native.Mathlib.Omega.{arith}
use Rattle.pins.proofs.Turns.{refilled_rest}
use Rattle.pins.proofs.Supplying.{begun_all_lem}
use Rattle.pins.proofs.supply.Goals as goal

pub returns : goal.returns
returns c =
    let x = c.loop-s.invariant in
    let zeros = c.zeros_from-n.ensures in
    (omega (arith, x.long), x.others, begun_all_lem (omega arith) (refilled_rest x (λ k l n. absurd (n (zeros.none k (omega arith))))))
