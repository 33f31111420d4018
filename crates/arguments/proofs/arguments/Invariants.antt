use mathlib.Core.Path.{◌≡◌}
use Prim.Native.Nat.{◌*◌}
use lib.ListN.{length}
use Rattle.meaning.specs.Bounds.{signals_most}
use Rattle.meaning.specs.Body.{Body}
use Rattle.words.proofs.Loops.{room}
use Rattle.signals.specs.Names.{names_of}
use Rattle.measures.specs.Uses.{Uses}
use Rattle.arguments.specs.Supplied.{Supplied}
use Rattle.arguments.proofs.Choosing.{Listing}
use Rattle.arguments.proofs.arguments.Given as goal

abbrev pub invariant-loop-given : goal.invariant-loop-given
invariant-loop-given l =
    (length l.given ≡ signals_most) × (length l.args ≡ signals_most * 2)
    × ((b : Body) → Uses b l.row → Listing l.text l.initial.cursor (names_of l.text l.places l.lists l.names) b l.cursor (λ xs. Supplied l.text xs l.given l.args))

abbrev pub decreases-loop-given : goal.decreases-loop-given
decreases-loop-given l = room l.text l.cursor
