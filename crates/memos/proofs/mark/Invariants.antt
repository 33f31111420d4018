use Prim.Native.Nat.{◌*◌}
use lib.ListN.{get_or}
use Rattle.meaning.specs.Bounds.{signals_most}
use Rattle.memos.specs.Tracks.{shown_marks}
use Rattle.memos.proofs.Marking.{Joined}
use Rattle.memos.proofs.mark.Given as goal

abbrev pub invariant-loop-s : goal.invariant-loop-s
invariant-loop-s l =
    Joined (l.level * signals_most) l.s (λ i. shown_marks (get_or l.given i 0) l.table) l.initial.memo l.memo
