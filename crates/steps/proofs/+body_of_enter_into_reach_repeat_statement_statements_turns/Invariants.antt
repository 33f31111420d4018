use Prim.Native.Nat.{◌+◌, ◌*◌}
use Rattle.tokens.specs.Tokens.{left}
use Rattle.words.specs.Cursor.{stream}
use Rattle.plays.specs.Plays.{ground_of, arrays}
use Rattle.steps.proofs.Repeating.{Repeats}
use Rattle.steps.proofs.Going.{Underway}
use Rattle.steps.proofs.+body_of_enter_into_reach_repeat_statement_statements_turns.Given as goal

-- a body in a body has one level less to go; what is called within a level falls by one of its six
abbrev pub decreases-body_of : goal.decreases-body_of
decreases-body_of l = 6 * l.frame.depth + 5

abbrev pub decreases-enter : goal.decreases-enter
decreases-enter l = 6 * l.frame.depth + 1

abbrev pub decreases-into : goal.decreases-into
decreases-into l = 6 * l.frame.depth

abbrev pub decreases-reach : goal.decreases-reach
decreases-reach l = 6 * l.frame.depth + 1

abbrev pub decreases-repeat : goal.decreases-repeat
decreases-repeat l = 6 * l.frame.depth + 2

abbrev pub decreases-statement : goal.decreases-statement
decreases-statement l = 6 * l.frame.depth + 3

abbrev pub decreases-statements : goal.decreases-statements
decreases-statements l = 6 * l.frame.depth + 4

abbrev pub decreases-turns : goal.decreases-turns
decreases-turns l = 6 * l.frame.depth

abbrev pub invariant-statements-loop-frame : goal.invariant-statements-loop-frame
invariant-statements-loop-frame l =
    Underway (ground_of l.ground) l.frame.depth l.frame.level l.frame.turns l.initial.cursor l.initial.chosen (arrays l.initial.values l.initial.feeds l.initial.args) l.initial.w l.initial.buffer
    l.cursor l.chosen (arrays l.values l.feeds l.args) l.w l.buffer

abbrev pub decreases-statements-loop-frame : goal.decreases-statements-loop-frame
decreases-statements-loop-frame l =
    left (stream l.ground.declared.text.now l.cursor)

abbrev pub invariant-turns-loop-i : goal.invariant-turns-loop-i
invariant-turns-loop-i l =
    Repeats (ground_of l.ground) (stream l.ground.declared.text.now l.c) l.inner.depth l.inner.level l.inner.turns l.n l.initial.chosen (arrays l.initial.values l.initial.feeds l.initial.args) l.initial.w l.initial.buffer
    l.i l.chosen (arrays l.values l.feeds l.args) l.w l.buffer l.cursor
