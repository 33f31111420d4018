use Prim.Native.Nat.{◌+◌, ◌*◌}
use Rattle.tokens.specs.Tokens.{left}
use Rattle.words.specs.Cursor.{stream}
use Rattle.plays.specs.Plays.{ground_of}
use Rattle.grants.proofs.Going.{Going}
use Rattle.grants.proofs.+body_looped_statement_tally_used.Given as goal

abbrev pub invariant-tally-loop-cursor : goal.invariant-tally-loop-cursor
invariant-tally-loop-cursor l =
    Going (ground_of l.ground) l.depth l.r l.initial.cursor l.cursor l.initial.marks l.marks l.initial.sums l.sums l.shifts l.twice

abbrev pub decreases-tally-loop-cursor : goal.decreases-tally-loop-cursor
decreases-tally-loop-cursor l =
    left (stream l.ground.declared.text.now l.cursor)

abbrev pub decreases-body : goal.decreases-body
decreases-body l = 4 * l.depth + 3

abbrev pub decreases-looped : goal.decreases-looped
decreases-looped l = 4 * l.depth

abbrev pub decreases-statement : goal.decreases-statement
decreases-statement l = 4 * l.depth + 1

abbrev pub decreases-tally : goal.decreases-tally
decreases-tally l = 4 * l.depth + 2

abbrev pub decreases-used : goal.decreases-used
decreases-used l = 4 * l.depth
