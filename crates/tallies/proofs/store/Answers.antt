-- A byte is stored: the law's own case.
use mathlib.Core.Path.{refl}
use Rattle.tallies.proofs.Stored.{stored}
use Rattle.tallies.proofs.store.Goals as goal

pub returns : goal.returns
returns c = stored _ c.args.p c.args.b c.requires.0 refl c.requires.1
