use Prim.Native.Nat.{◌+◌, ◌*◌, ◌≤◌}
use mathlib.Core.Path.{◌≡◌}
use mathlib.Core.Bool.{true}
use Rattle.meaning.specs.Reader.{while}
use Rattle.meaning.specs.Groups.{sign_ahead, bracket, more as more_due}
use Rattle.sets.specs.Sets.{list_of}
use Rattle.sets.proofs.Tidy.{Tidy}
use Rattle.words.specs.Cursor.{alive}
use Rattle.words.proofs.Loops.{Leads, room}
use Rattle.signals.specs.Names.{names_of}
use Rattle.signals.proofs.+expression_term.Given as goal

abbrev pub invariant-expression-loop-s : goal.invariant-expression-loop-s
invariant-expression-loop-s l =
    Leads l.text l.initial.cursor (while sign_ahead (more_due (bracket l.d (names_of l.text l.places l.lists l.count)) (names_of l.text l.places l.lists l.count)) (list_of l.initial.set)) l.cursor
    (while sign_ahead (more_due (bracket l.d (names_of l.text l.places l.lists l.count)) (names_of l.text l.places l.lists l.count)) (list_of l.set))
    × (alive l.cursor ≡ true → Tidy (list_of l.set))
    × (room l.text l.cursor ≤ room l.text l.initial.cursor)

abbrev pub decreases-expression-loop-s : goal.decreases-expression-loop-s
decreases-expression-loop-s l = room l.text l.cursor

-- a term that is a bracket takes a token before it reads an expression
abbrev pub decreases-expression : goal.decreases-expression
decreases-expression l = 2 * room l.text.now l.c + 1

abbrev pub decreases-term : goal.decreases-term
decreases-term l = 2 * room l.text.now l.c
