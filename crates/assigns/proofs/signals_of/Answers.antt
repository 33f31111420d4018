-- A row's first number says how many signals there are, as far as there is room.
use Rattle.assigns.proofs.Rows.{row_is}
use Rattle.assigns.proofs.signals_of.Goals as goal

pub returns : goal.returns
returns c = row_is c.args.lists.now c.args.i c.min-n.result c.min-n.ensures
