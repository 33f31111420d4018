-- `line` meets its contract: its five pieces are the line.
use Rattle.index.proofs.Writing.{line_adds}
use Rattle.index.proofs.line.Goals as goal

pub returns : goal.returns
returns c = line_adds c.args.name.now c.args.first c.args.count c.args.keyword c.requires.0 c.put-end.ensures c.spaced-end.ensures c.spaced-end-2.ensures c.spaced-end-3.ensures c.put.ensures
