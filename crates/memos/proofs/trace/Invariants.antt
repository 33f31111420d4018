use Prim.Native.Nat.{◌+◌}
use Rattle.memos.specs.Tracks.{marks_from}
use Rattle.memos.specs.Memo.{picture_size, Writes, Traces}
use Rattle.memos.proofs.trace.Given as goal

abbrev pub invariant-loop-s : goal.invariant-loop-s
invariant-loop-s l = Writes l.initial.memo l.memo l.o (l.o + picture_size) × Traces l.memo l.o l.s l.table (marks_from l.initial.memo l.from)
