use mathlib.Core.List.{[], ◌∷◌}
use lib.ListN.{take}
use Rattle.timing.specs.Marks.{Marked}
use Rattle.timing.proofs.mark_chars.Given as goal

abbrev pub invariant-loop-b : goal.invariant-loop-b
invariant-loop-b l = Marked l.initial.table (l.s ∷ []) (take l.b-index l.w) l.table
