use mathlib.Core.List.{[], ◌∷◌}
use mathlib.Core.Path.{◌≡◌}
use lib.ListN.{length}
use Rattle.words.proofs.Loops.{room as left_in}
use Rattle.fails.proofs.Writing.{Offsets}
use Rattle.fails.proofs.write_offsets.Given as goal

abbrev pub invariant-loop-o : goal.invariant-loop-o
invariant-loop-o l =
    (length l.cycles ≡ length l.initial.cycles) × (length l.signals ≡ length l.initial.signals) × (length l.letters ≡ length l.initial.letters) × Offsets l.report l.start l.signal l.at l.initial.cycles l.initial.signals l.initial.letters (59 ∷ []) l.initial.cursor l.cursor l.cycles l.signals l.letters l.n

abbrev pub decreases-loop-o : goal.decreases-loop-o
decreases-loop-o l =
    left_in l.report l.cursor
