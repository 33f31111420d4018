-- One store.
use Rattle.crossings.proofs.Storing.{forgotten}
use Rattle.crossings.proofs.forget.Goals as goal

pub returns : goal.returns
returns c = λ n. forgotten n c.args.seen.now.pins c.requires.0 c.requires.1
