use mathlib.Core.Path.{◌≡◌}
use Rattle.tokens.specs.Tokens.{left}
use Rattle.words.specs.Cursor.{stream}
use Rattle.saving.specs.Saving.{semicolon}
use Rattle.saving.proofs.Scanning.{Among}
use Rattle.saving.proofs.entry_at.Given as goal

abbrev pub invariant-loop-c : goal.invariant-loop-c
invariant-loop-c l = (semicolon (stream l.text l.initial.c) ≡ semicolon (stream l.text l.c)) × Among l.text l.c

abbrev pub decreases-loop-c : goal.decreases-loop-c
decreases-loop-c l = left (stream l.text l.c)
