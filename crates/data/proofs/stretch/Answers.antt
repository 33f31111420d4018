-- One character so many times, or the word so many times.
use Rattle.data.proofs.Pieces.{adds_alike}
use Rattle.data.proofs.stretch.Goals as goal

pub returns-then-w-eq1 : goal.returns-then-w-eq1
returns-then-w-eq1 c =
    adds_alike c.args.k c.args.w.now c.if-w-eq1.true c.fill.ensures

pub returns : goal.returns
returns c = c.copies.ensures
