-- `lutemeteor_token` meets its contract: the step, case by case, handed out.
use mathlib.Core.Path.{sym, ap}
use Rattle.tokens.proofs.Results.{met_token, met_end}
use Rattle.stil.specs.Interface.{token_of}
use Rattle.stil.proofs.Handing.{room_refused, hands_none, hands_alike}
use Rattle.stil.proofs.lutemeteor_token.Goals as goal

pub returns-in-Err : goal.returns-in-Err
unfolding token_of
returns-in-Err c = hands_none (room_refused 3 _ (ap token_of (sym c.in-Err.ensures))) c.pack.ensures

pub returns-in-Ok-None : goal.returns-in-Ok-None
unfolding token_of
returns-in-Ok-None c =
    hands_alike (ap token_of (met_end c.in-Ok-None.field-0-is c.in-Ok-None.ensures)) c.hand_three.ensures

pub returns-in-Ok-Some : goal.returns-in-Ok-Some
unfolding token_of
returns-in-Ok-Some c =
    hands_alike (ap token_of (met_token c.in-Ok-Some.field-0-is c.in-Ok-Some.ensures)) c.hand_three-in-Ok-Some.ensures
