use native.Mathlib.Omega.{arith}
use Rattle.sets.proofs.Sets.{sized}
use Rattle.signals.proofs.Rows.{written}
use Rattle.signals.proofs.put_set.Goals as goal

pub returns : goal.returns
returns c = rw c.copy_from_slice.ensures.after (written c.args.lists.now c.args.i c.args.set c.held.result _ (sized c.args.set c.well_formed.1.1.0) c.held.ensures c.requires (omega arith))
