use mathlib.Core.Path.{◌≡◌}
use mathlib.Core.Bool.{not}
use mathlib.Core.List.{[], ◌∷◌}
use lib.ListN.{length}
use Rattle.meaning.specs.Reader.{ahead_of, while}
use Rattle.meaning.specs.Statements.{Env}
use Rattle.words.proofs.Loops.{room}
use Rattle.timing.proofs.Making.{Looping}
use Rattle.heads.specs.Known.{Describes}
use Rattle.noted.specs.Noted.{Grows}
use Rattle.noted.specs.Known.{Knows}
use Rattle.bodies.specs.Blocks.{one_of, Declared}
use Rattle.bodies.proofs.block.Given as goal

abbrev pub invariant-loop-book : goal.invariant-loop-book
invariant-loop-book l =
    (length l.book ≡ length l.initial.book)
    × (length l.rows ≡ length l.initial.rows)
    × (length l.args ≡ length l.initial.args)
    × Grows l.initial.used l.used
    × ((e : Env) → Describes l.text l.places l.lists l.tplaces l.initial.book l.initial.rows l.initial.all e
    → Looping l.text l.initial.cursor (while (λ ts. not (ahead_of (125 ∷ []) ts)) (one_of l.macros) e) (λ ts. not (ahead_of (125 ∷ []) ts)) (one_of l.macros) l.cursor
    (Declared l.text l.places l.lists l.tplaces l.book l.rows l.all (Knows l.initial.all.tables l.initial.used e) l.used))

abbrev pub decreases-loop-book : goal.decreases-loop-book
decreases-loop-book l =
    room l.text l.cursor
