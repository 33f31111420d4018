-- One byte of the row.
use mathlib.Core.Path.{ap, ◌∙◌}
use mathlib.Core.Bool.{not}
use Prim.Native.Nat.{ℕ}
use lib.Dec.{eqb}
use Rattle.tallies.proofs.Signals.{slot_under}
use Rattle.tallies.proofs.shows.Goals as goal

pub returns : goal.returns
returns c = ap (λ (n : ℕ). not (eqb n 0)) c.byte.ensures ∙ slot_under c.args.sums.now c.args.r c.args.s c.args.t c.requires.1 c.requires.2
