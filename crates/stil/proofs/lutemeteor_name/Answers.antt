-- `lutemeteor_name` meets its contract: the answer, case by case, handed out.
use mathlib.Core.Path.{sym}
use Rattle.stil.proofs.Handing.{room_refused, hands_none, hands_alike}
use Rattle.stil.proofs.lutemeteor_name.Goals as goal

pub returns-in-Err : goal.returns-in-Err
returns-in-Err c = hands_none (room_refused 2 _ (sym c.in-Err.ensures)) c.pack.ensures

pub returns-in-Ok : goal.returns-in-Ok
returns-in-Ok c = hands_alike (sym c.in-Ok.ensures) c.hand_two.ensures
