use mathlib.Core.Bool.{not}
use mathlib.Core.List.{[], ◌∷◌}
use Rattle.meaning.specs.Reader.{while, ahead_of}
use Rattle.words.proofs.Loops.{room}
use Rattle.words.specs.Table.{names}
use Rattle.reports.specs.Report.{one_record}
use Rattle.reports.proofs.Passing.{On}
use Rattle.reports.proofs.all_records.Given as goal

abbrev pub invariant-loop-cursor : goal.invariant-loop-cursor
invariant-loop-cursor l =
    let one = one_record (names l.text l.places l.count) in
    On l.report l.initial.cursor (while (λ ts. not (ahead_of (125 ∷ []) ts)) one []) (125 ∷ []) one l.cursor

abbrev pub decreases-loop-cursor : goal.decreases-loop-cursor
decreases-loop-cursor l = room l.report l.cursor
