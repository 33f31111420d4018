-- `put_progress` meets its contract: the answer, case by case.
use Rattle.stil.proofs.Carrying.{tells_open, tells_refused, tells_closed}
use Rattle.stil.proofs.put_progress.Goals as goal

pub returns-in-Ok-Open : goal.returns-in-Ok-Open
returns-in-Ok-Open c = tells_open c.in-Ok-Open.is (rw c.in-Ok-Open.is at c.in-Ok-Open.field-0-is) c.put_six.ensures

pub returns-in-Err : goal.returns-in-Err
returns-in-Err c = tells_refused c.in-Err.is c.put_six-in-Err.ensures c.pack_raw.ensures

pub returns-in-Ok-Closed : goal.returns-in-Ok-Closed
returns-in-Ok-Closed c = tells_closed c.in-Ok-Closed.is (rw c.in-Ok-Closed.is at c.in-Ok-Closed.field-0-is) c.put_six-in-Ok-Closed.ensures
