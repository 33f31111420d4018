-- `put_number` meets its contract. The invariant: the last digits stand behind `first`, and those of `left` are due before them.
use native.Mathlib.Omega.{arith}
use mathlib.Core.Path.{refl}
use Rattle.pages.proofs.Laws.{puts_same}
use Rattle.pages.proofs.Turns.{spelled_none, spelled_more, spelled_all}
use Rattle.pages.proofs.put_number.Goals as goal

pub loop-left-init : goal.loop-left-init
loop-left-init c = spelled_none refl (omega arith)

pub loop-left-preserved : goal.loop-left-preserved
loop-left-preserved c = spelled_more c.loop-left.invariant (omega arith)

pub returns : goal.returns
returns c =
    let inv = c.loop-left.invariant in
    puts_same c.put.ensures (spelled_all inv (omega arith))
