use Rattle.tokens.specs.Tokens.{left}
use Rattle.words.specs.Cursor.{stream}
use Rattle.waves.proofs.Entries.{Reading}
use Rattle.waves.proofs.read.Given as goal

abbrev pub invariant-loop-cursor : goal.invariant-loop-cursor
invariant-loop-cursor l = Reading l.text l.place l.b l.i l.cursor l.n l.initial.times l.times l.initial.letters l.letters

abbrev pub decreases-loop-cursor : goal.decreases-loop-cursor
decreases-loop-cursor l = left (stream l.text l.cursor)
