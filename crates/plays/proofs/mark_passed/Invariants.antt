use Prim.Native.Nat.{◌*◌}
use Rattle.meaning.specs.Bounds.{signals_most}
use Rattle.plays.specs.Plays.{PassedMarks}
use Rattle.memos.proofs.Marking.{JoinedSome}
use Rattle.plays.proofs.mark_passed.Given as goal

abbrev pub invariant-loop-s : goal.invariant-loop-s
invariant-loop-s l =
    JoinedSome (λ j b. PassedMarks l.sums l.i l.table j b) (l.level * signals_most) l.s l.initial.memo l.memo
