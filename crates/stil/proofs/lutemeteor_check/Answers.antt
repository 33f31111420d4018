-- `lutemeteor_check` meets its contract: the answer, case by case, and five stores to the front.
use native.Mathlib.Omega.{arith}
use mathlib.Core.Path.{sym}
use lib.ListN.{length-set}
use Rattle.stil.proofs.Handing.{five_stored, room_refused, room_none, room_enough, hands_none, hands_all}
use Rattle.stil.proofs.lutemeteor_check.Goals as goal

pub returns-then-numbers-lt5 : goal.returns-then-numbers-lt5
returns-then-numbers-lt5 c =
    hands_none (room_none 5 _ (sym c.in-Ok.ensures) c.if-numbers-lt5.true) c.pack-then-numbers-lt5.ensures

pub bounds-numbers-1 : goal.bounds-numbers-1
bounds-numbers-1 c = simp length-set (omega arith)

pub bounds-numbers-2 : goal.bounds-numbers-2
bounds-numbers-2 c = simp length-set (omega arith)

pub bounds-numbers-3 : goal.bounds-numbers-3
bounds-numbers-3 c = simp length-set (omega arith)

pub returns-in-Err : goal.returns-in-Err
returns-in-Err c =
    hands_none (room_refused 5 _ (sym c.in-Err.ensures)) c.pack.ensures

pub returns-else-numbers-lt5 : goal.returns-else-numbers-lt5
returns-else-numbers-lt5 c =
    hands_all (room_enough 5 _ (sym c.in-Ok.ensures) c.if-numbers-lt5.false) (five_stored c.args.numbers.now _ _ _ _ _ c.if-numbers-lt5.false)
