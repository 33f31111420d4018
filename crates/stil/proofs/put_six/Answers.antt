-- `put_six` meets its contract: six stores to the front.
use native.Mathlib.Omega.{arith}
use lib.ListN.{length-set}
use Rattle.stil.proofs.Handing.{six_stored}
use Rattle.stil.proofs.put_six.Goals as goal

pub bounds-state-1 : goal.bounds-state-1
bounds-state-1 c = simp length-set (omega arith)

pub bounds-state-2 : goal.bounds-state-2
bounds-state-2 c = simp length-set (omega arith)

pub bounds-state-3 : goal.bounds-state-3
bounds-state-3 c = simp length-set (omega arith)

pub bounds-state-4 : goal.bounds-state-4
bounds-state-4 c = simp length-set (omega arith)

pub returns : goal.returns
returns c = six_stored c.args.state.now _ _ _ _ _ _ c.requires
