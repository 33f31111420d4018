-- By the marks of what the row asks for by itself.
use Rattle.tallies.proofs.Fitting.{suits_fine}
use Rattle.tallies.proofs.suits.Goals as goal

pub returns : goal.returns
returns c = λ e. suits_fine c.if-row-ne0.false c.if-table-ge-TABLES.false e
