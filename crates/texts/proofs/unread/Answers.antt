-- `unread` meets its contract: a fault of the bytes first, and then what reading refused.
use mathlib.Core.Path.{sym}
use Rattle.texts.proofs.Sounds.{sound_fault, sound_refused}
use Rattle.texts.proofs.unread.Goals as goal

pub returns-in-Ok : goal.returns-in-Ok
returns-in-Ok c = sound_refused _ (sym c.in-Ok.ensures)

pub returns-in-Err : goal.returns-in-Err
returns-in-Err c = λ e. sound_fault _ (sym c.in-Err.ensures)
