-- Each turn looks at the next row.
use native.Mathlib.Omega.{arith}
use Rattle.crossings.proofs.Storing.{noting_none, noting_next, noting_all, noting_ample}
use Rattle.crossings.proofs.note.Goals as goal

pub loop-i-init : goal.loop-i-init
loop-i-init c = noting_none

pub note_first-requires : goal.note_first-requires
note_first-requires c = (c.requires.0, c.requires.1, noting_ample c.requires.2 c.loop-i.invariant, omega arith)

pub loop-i-preserved : goal.loop-i-preserved
loop-i-preserved c = noting_next c.loop-i.invariant (omega arith) (omega arith) c.note_first.ensures

pub store-requires : goal.store-requires
store-requires c = (c.requires.0, c.requires.1, noting_ample c.requires.2 c.loop-i.invariant, omega arith)

pub returns : goal.returns
returns c = noting_all c.loop-i.invariant c.requires.3 (omega arith) c.store.ensures
