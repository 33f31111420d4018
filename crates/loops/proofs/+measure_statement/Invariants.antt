use Prim.Native.Nat.{◌+◌, ◌*◌}
use Rattle.tokens.specs.Tokens.{left}
use Rattle.words.specs.Cursor.{stream}
use Rattle.loops.specs.Held.{tables_of}
use Rattle.loops.proofs.Going.{Going}
use Rattle.loops.proofs.+measure_statement.Given as goal

-- a Loop's body may stand one level less deep, so that twice the levels fall
abbrev pub decreases-measure : goal.decreases-measure
decreases-measure l = 2 * l.depth + 1

abbrev pub decreases-statement : goal.decreases-statement
decreases-statement l = 2 * l.depth

abbrev pub invariant-measure-loop-behind : goal.invariant-measure-loop-behind
invariant-measure-loop-behind l =
    Going (tables_of l.ground) l.depth l.initial.cursor l.cursor l.sum l.args

abbrev pub decreases-measure-loop-behind : goal.decreases-measure-loop-behind
decreases-measure-loop-behind l = left (stream l.ground.declared.text.now l.cursor)
