use mathlib.Core.List.{[], ◌∷◌}
use mathlib.Core.Path.{◌≡◌}
use lib.ListN.{length}
use Rattle.words.specs.Table.{names}
use Rattle.words.proofs.Loops.{room as left_in}
use Rattle.references.specs.References.{past_by}
use Rattle.references.specs.Filled.{noted}
use Rattle.fails.proofs.Writing.{Written}
use Rattle.fails.proofs.write.Given as goal

abbrev pub invariant-loop-cursor : goal.invariant-loop-cursor
invariant-loop-cursor l =
    (length l.cycles ≡ length l.initial.cycles) × (length l.signals ≡ length l.initial.signals) × (length l.letters ≡ length l.initial.letters) × Written l.report (names l.text l.places l.known) l.first (past_by l.name (noted l.text l.labels l.count l.table)) l.initial.cycles l.initial.signals l.initial.letters (125 ∷ []) l.initial.cursor l.cursor l.cycles l.signals l.letters l.n

abbrev pub decreases-loop-cursor : goal.decreases-loop-cursor
decreases-loop-cursor l =
    left_in l.report l.cursor
