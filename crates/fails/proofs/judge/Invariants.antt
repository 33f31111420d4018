use mathlib.Core.List.{[], ◌∷◌}
use Rattle.words.specs.Table.{names}
use Rattle.words.proofs.Loops.{room as left_in}
use Rattle.references.specs.References.{past_by}
use Rattle.references.specs.Filled.{noted}
use Rattle.fails.proofs.Judging.{Kept}
use Rattle.fails.proofs.judge.Given as goal

abbrev pub invariant-loop-cursor : goal.invariant-loop-cursor
invariant-loop-cursor l =
    Kept l.report (names l.text l.places l.signals) l.cycles (past_by l.name (noted l.text l.labels l.count l.table)) l.room (125 ∷ []) l.initial.cursor l.cursor l.x

abbrev pub decreases-loop-cursor : goal.decreases-loop-cursor
decreases-loop-cursor l =
    left_in l.report l.cursor
