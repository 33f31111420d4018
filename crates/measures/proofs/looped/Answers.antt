-- One level more, one statement more, and n times the cycles.
use Rattle.measures.proofs.Measured.{loop_measures}
use Rattle.measures.proofs.looped.Goals as goal

pub returns : goal.returns
returns c = λ b m. loop_measures m c.around.ensures c.args.n c.product-cycles.ensures c.product-shifts.ensures
