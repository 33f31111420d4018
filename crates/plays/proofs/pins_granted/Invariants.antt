use Rattle.memos.specs.Tracks.{marks_from}
use Rattle.plays.proofs.Marks.{GrantedPins}
use Rattle.plays.proofs.pins_granted.Given as goal

abbrev pub invariant-loop-s : goal.invariant-loop-s
invariant-loop-s l =
    GrantedPins l.waves (marks_from l.memo l.from) l.values l.s
