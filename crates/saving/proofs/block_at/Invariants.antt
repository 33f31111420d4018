use Rattle.tokens.specs.Tokens.{left}
use Rattle.words.specs.Cursor.{stream}
use Rattle.saving.proofs.Scanning.{Looks}
use Rattle.saving.proofs.block_at.Given as goal

abbrev pub invariant-loop-c : goal.invariant-loop-c
invariant-loop-c l = Looks l.text l.p l.c l.s

abbrev pub decreases-loop-c : goal.decreases-loop-c
decreases-loop-c l = left (stream l.text l.c)
