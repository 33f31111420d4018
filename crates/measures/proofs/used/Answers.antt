-- One level more, one statement more, and the cycles with its Shift played t times.
use mathlib.Core.Path.{refl}
use Rattle.measures.proofs.Measured.{use_measures}
use Rattle.measures.proofs.used.Goals as goal

pub returns : goal.returns
returns c =
    λ k a b m.
    use_measures m c.around.ensures k c.args.t a (rw c.product-shifted.ensures at c.sum.ensures)
    refl
