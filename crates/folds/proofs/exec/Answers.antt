-- `exec` meets its contract: one line that is always the same.
use Rattle.tokens.specs.Written.{bytes}
use Rattle.pens.proofs.Laws.{writes_same}
use Rattle.folds.proofs.Laws.{exec_line}
use Rattle.folds.proofs.exec.Goals as goal

pub returns : goal.returns
unfolding bytes
returns c = writes_same exec_line c.add.ensures
