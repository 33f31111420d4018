-- Each turn takes the next signal.
use native.Mathlib.Omega.{arith}
use Rattle.meaning.specs.Bounds.{signals_most}
use Rattle.noted.proofs.Marking.{args_kept, args_next, args_rest, args_all}
use Rattle.noted.proofs.note_args.Goals as goal
use Rattle.noted.proofs.note_args.Goals.{then-given-s-ne0, else-given-s-ne0}

pub loop-s-preserved : goal.loop-s-preserved
loop-s-preserved c =
    let x = c.loop-s.invariant in
    elim c.if-given-s-ne0.branch [
      | then-given-s-ne0 w ↦ rw w.used-is (args_next x w.note_data.ensures.0 w.note_data.ensures.1)
      | else-given-s-ne0 w ↦ rw w.used-is (args_kept x w.if-given-s-ne0.false)
    ]

pub returns : goal.returns
returns c =
    let y = c.loop-s.invariant in
    let zeros = c.zeros_from-n.ensures in
    (y.grows, args_all (args_rest y (λ i l. zeros.none i (omega arith)) signals_most) (omega arith))
