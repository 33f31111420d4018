-- `lutemeteor_belongs` meets its contract: the answer, case by case.
use Rattle.stil.proofs.Handing.{packed_refused, packed_given}
use Rattle.stil.proofs.lutemeteor_belongs.Goals as goal

pub returns-in-Err : goal.returns-in-Err
returns-in-Err c = packed_refused c.in-Err.ensures c.pack.ensures

pub returns-in-Ok : goal.returns-in-Ok
returns-in-Ok c = packed_given c.in-Ok.ensures
