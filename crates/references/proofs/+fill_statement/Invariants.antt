use Prim.Native.Nat.{◌+◌, ◌*◌}
use Rattle.tokens.specs.Tokens.{left}
use Rattle.words.specs.Cursor.{stream}
use Rattle.references.specs.Filled.{tables}
use Rattle.references.proofs.Going.{Going}
use Rattle.references.proofs.+fill_statement.Given as goal

abbrev pub invariant-fill-loop-r : goal.invariant-fill-loop-r
invariant-fill-loop-r l =
    Going (tables l.declared.text.now l.declared.places.now l.declared.lists.now l.declared.tplaces.now l.declared.book.now l.declared.rows.now l.declared.known l.labels l.count) l.depth l.initial.cursor l.initial.passed l.initial.table l.cursor l.passed l.args l.table

abbrev pub decreases-fill-loop-r : goal.decreases-fill-loop-r
decreases-fill-loop-r l = left (stream l.declared.text.now l.cursor)

-- a Loop's body may stand one level less deep
abbrev pub decreases-fill : goal.decreases-fill
decreases-fill l = 2 * l.depth + 1

abbrev pub decreases-statement : goal.decreases-statement
decreases-statement l = 2 * l.depth
