use Rattle.tokens.specs.Tokens.{left}
use Rattle.words.specs.Cursor.{stream}
use Rattle.labels.proofs.Scanning.{Scans}
use Rattle.labels.proofs.gather.Given as goal

abbrev pub invariant-loop-c : goal.invariant-loop-c
invariant-loop-c l = Scans l.text l.from l.burst l.places l.heads l.nexts l.c l.here l.count

abbrev pub decreases-loop-c : goal.decreases-loop-c
decreases-loop-c l = left (stream l.text l.c)
