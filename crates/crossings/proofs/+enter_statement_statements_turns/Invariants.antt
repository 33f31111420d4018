use Prim.Native.Nat.{◌+◌, ◌*◌}
use Rattle.tokens.specs.Tokens.{left}
use Rattle.words.specs.Cursor.{stream}
use Rattle.plays.specs.Plays.{ground_of, arrays}
use Rattle.crossings.specs.Rows.{clock_of}
use Rattle.crossings.proofs.Going.{Underway}
use Rattle.crossings.proofs.+enter_statement_statements_turns.Given as goal

abbrev pub invariant-statements-loop-frame : goal.invariant-statements-loop-frame
invariant-statements-loop-frame l = Underway (ground_of l.ground) (clock_of l.times) l.frame.depth l.frame.level l.frame.turns l.initial.cursor l.initial.chosen (arrays l.initial.values l.initial.feeds l.initial.args) l.initial.seen l.cursor l.chosen (arrays l.values l.feeds l.args) l.seen

abbrev pub decreases-statements-loop-frame : goal.decreases-statements-loop-frame
decreases-statements-loop-frame l = left (stream l.ground.declared.text.now l.cursor)

abbrev pub decreases-enter : goal.decreases-enter
decreases-enter l = 4 * l.frame.depth

abbrev pub decreases-statement : goal.decreases-statement
decreases-statement l = 4 * l.frame.depth + 1

abbrev pub decreases-statements : goal.decreases-statements
decreases-statements l = 4 * l.frame.depth + 2

abbrev pub decreases-turns : goal.decreases-turns
decreases-turns l = 4 * l.frame.depth
