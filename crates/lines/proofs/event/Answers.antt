-- `event` meets its contract: its two pieces are the line.
use native.Mathlib.Omega.{arith}
use Rattle.sections.proofs.Pieces.{adds_both, adds_whole, word_adds}
use Rattle.lines.proofs.Laws.{event_is}
use Rattle.lines.proofs.event.Goals as goal

pub returns : goal.returns
returns c = adds_whole (adds_both c.signed-end.ensures (word_adds c.put.ensures)) (event_is _ _) (omega arith)
