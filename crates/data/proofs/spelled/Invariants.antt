use Rattle.words.proofs.Loops.{room}
use Rattle.data.proofs.Turns.{Reading}
use Rattle.data.proofs.spelled.Given as goal

abbrev pub invariant-loop-buffer : goal.invariant-loop-buffer
invariant-loop-buffer l = Reading l.text l.initial.cursor l.may l.cursor l.initial.buffer l.buffer l.n

abbrev pub decreases-loop-buffer : goal.decreases-loop-buffer
decreases-loop-buffer l = room l.text l.cursor
