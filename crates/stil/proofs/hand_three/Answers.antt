-- `hand_three` meets its contract: no room, or three stores to the front.
use native.Mathlib.Omega.{arith}
use mathlib.Core.Path.{refl}
use lib.ListN.{length-set}
use Rattle.stil.proofs.Handing.{three_stored, room_none, room_enough, hands_none, hands_all}
use Rattle.stil.proofs.hand_three.Goals as goal

pub returns-then-numbers-lt3 : goal.returns-then-numbers-lt3
returns-then-numbers-lt3 c = hands_none (room_none 3 _ refl c.if-numbers-lt3.true) c.pack.ensures

pub bounds-numbers-1 : goal.bounds-numbers-1
bounds-numbers-1 c = simp length-set (omega arith)

pub bounds-numbers-2 : goal.bounds-numbers-2
bounds-numbers-2 c = simp length-set (omega arith)

pub returns : goal.returns
returns c = hands_all (room_enough 3 _ refl c.if-numbers-lt3.false) (three_stored c.args.numbers.now _ _ _ c.if-numbers-lt3.false)
