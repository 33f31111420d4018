-- The deeper of the two, and the sums.
use Rattle.measures.proofs.Measured.{joined_measures}
use Rattle.measures.proofs.plus.Goals as goal

pub returns : goal.returns
returns c =
    λ a b m n. joined_measures m n c.max.ensures c.sum.ensures c.sum-2.ensures c.sum-3.ensures
