use Prim.Native.Nat.{◌+◌}
use Rattle.memos.specs.Memo.{picture_size, Writes, Pictures, pins_of}
use Rattle.memos.proofs.picture.Given as goal

abbrev pub invariant-loop-s : goal.invariant-loop-s
invariant-loop-s l =
    Writes l.initial.memo l.memo l.o (l.o + picture_size) × Pictures l.memo l.o l.s l.table (pins_of l.values)
