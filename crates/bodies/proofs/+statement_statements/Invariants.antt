use Prim.Native.Nat.{◌+◌, ◌*◌}
use mathlib.Core.Path.{◌≡◌}
use lib.ListN.{length}
use Rattle.meaning.specs.Bounds.{signals_most}
use Rattle.meaning.specs.Statements.{Env}
use Rattle.words.proofs.Loops.{room}
use Rattle.measures.specs.Uses.{row_length}
use Rattle.timing.specs.Marks.{table_size}
use Rattle.noted.specs.Noted.{Grows}
use Rattle.heads.specs.Known.{Describes}
use Rattle.bodies.specs.Bodies.{Notes}
use Rattle.bodies.proofs.Reading.{Reading}
use Rattle.bodies.proofs.+statement_statements.Given as goal

-- a Loop's body may stand one level less deep, so that twice the levels fall
abbrev pub decreases-statement : goal.decreases-statement
decreases-statement l = 2 * l.d

abbrev pub decreases-statements : goal.decreases-statements
decreases-statements l = 2 * l.d + 1

abbrev pub invariant-statements-loop-cursor : goal.invariant-statements-loop-cursor
invariant-statements-loop-cursor l =
    (length l.row ≡ row_length)
    × (length l.args ≡ signals_most * 2)
    × (length l.used ≡ table_size)
    × Grows l.initial.used l.used
    × ((e : Env) → Describes l.declared.text.now l.declared.places.now l.declared.lists.now l.declared.tplaces.now l.declared.book.now l.declared.rows.now l.declared.known e → Reading l.declared.text.now e l.own l.d l.initial.cursor l.cursor l.ends l.seen l.measure l.initial.row l.row (Notes l.declared.known.tables e l.initial.used l.used))

abbrev pub decreases-statements-loop-cursor : goal.decreases-statements-loop-cursor
decreases-statements-loop-cursor l =
    room l.declared.text.now l.cursor
