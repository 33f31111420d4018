use Prim.Native.Nat.{◌*◌}
use Rattle.meaning.specs.Bounds.{signals_most}
use Rattle.memos.specs.Tracks.{marks_from}
use Rattle.memos.proofs.Marking.{Joined}
use Rattle.memos.proofs.merge.Given as goal

abbrev pub invariant-loop-s : goal.invariant-loop-s
invariant-loop-s l =
    Joined (l.level * signals_most) l.s (marks_from l.initial.memo l.from) l.initial.memo l.memo
