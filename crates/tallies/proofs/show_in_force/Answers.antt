-- The slot in force is that table's.
use mathlib.Core.Path.{sym}
use Rattle.tallies.proofs.show_in_force.Goals as goal

pub returns : goal.returns
returns c = (c.show.ensures.0, λ tabs m. rw (sym c.in_force.ensures.1) (c.show.ensures.1 tabs m))
