-- `no_events` meets its contract: from 0 on, every time rises behind no events.
use Rattle.timing.proofs.EventTimes.{no_times}
use Rattle.timing.proofs.no_events.Goals as goal

pub returns : goal.returns
returns c = no_times
