use Rattle.memos.specs.Memo.{Restores}
use Rattle.memos.proofs.restore.Given as goal

abbrev pub invariant-loop-s : goal.invariant-loop-s
invariant-loop-s l =
    Restores l.memo l.o l.s l.initial.values l.values
