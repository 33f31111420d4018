-- `add` meets its contract: no room before, none now, or put.
use native.Mathlib.Omega.{arith}
use mathlib.Core.Path.{refl}
use Rattle.pens.proofs.Laws.{writes_put}
use Rattle.pens.proofs.add.Goals as goal

pub returns : goal.returns
returns c = writes_put c.in-Some.is (omega arith) refl c.put-end.ensures
