use Prim.Native.Nat.{◌+◌, ◌*◌}
use Rattle.tokens.specs.Tokens.{left}
use Rattle.words.specs.Cursor.{stream}
use Rattle.plays.specs.Plays.{ground_of, arrays}
use Rattle.plays.proofs.Going.{Going}
use Rattle.plays.proofs.+body_of_looped_needed_turns_play_body_statement_statements_used_uses.Given as goal

abbrev pub invariant-statements-loop-frame : goal.invariant-statements-loop-frame
invariant-statements-loop-frame l =
    Going (ground_of l.ground) l.marks l.sums l.initial.memo l.memo l.frame.depth l.frame.level l.frame.seconds l.frame.turns l.initial.cursor l.initial.chosen
    (arrays l.initial.values l.initial.feeds l.initial.args) l.cursor l.chosen (arrays l.values l.feeds l.args)

abbrev pub decreases-statements-loop-frame : goal.decreases-statements-loop-frame
decreases-statements-loop-frame l = left (stream l.ground.declared.text.now l.cursor)

abbrev pub decreases-body_of : goal.decreases-body_of
decreases-body_of l = 8 * l.frame.depth + 6

abbrev pub decreases-looped : goal.decreases-looped
decreases-looped l = 8 * l.frame.depth + 3

abbrev pub decreases-needed_turns : goal.decreases-needed_turns
decreases-needed_turns l = 8 * l.frame.depth + 2

abbrev pub decreases-play_body : goal.decreases-play_body
decreases-play_body l = 8 * l.frame.depth + 1

abbrev pub decreases-statement : goal.decreases-statement
decreases-statement l = 8 * l.frame.depth + 4

abbrev pub decreases-statements : goal.decreases-statements
decreases-statements l = 8 * l.frame.depth + 5

abbrev pub decreases-used : goal.decreases-used
decreases-used l = 8 * l.frame.depth + 2

abbrev pub decreases-uses : goal.decreases-uses
decreases-uses l = 8 * l.frame.depth + 3
