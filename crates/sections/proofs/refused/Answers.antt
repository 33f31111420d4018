-- `refused` meets its contract: the refusal stands at the front of a page that none follows.
use Rattle.sections.proofs.Laws.{at_front}
use Rattle.sections.proofs.refused.Goals as goal

pub returns : goal.returns
returns c = (rw c.last.ensures (at_front c.refusal-end.ensures.puts), rw c.last.ensures)
