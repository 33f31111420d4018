use mathlib.Core.Path.{◌≡◌}
use mathlib.Core.Bool.{true, not}
use mathlib.Core.List.{[], ◌∷◌}
use Prim.Native.Nat.{◌≤◌}
use Rattle.meaning.specs.Bounds.{signals_most}
use Rattle.meaning.specs.Reader.{while, ahead_of}
use Rattle.meaning.specs.Groups.{group as group_due}
use Rattle.words.specs.Cursor.{alive}
use Rattle.words.proofs.Loops.{Leads, room}
use Rattle.signals.specs.Names.{Chained, Sized, names_of}
use Rattle.signals.proofs.Tidy.{Grown}
use Rattle.signals.proofs.groups.Given as goal

abbrev pub invariant-loop-places : goal.invariant-loop-places
invariant-loop-places l =
    Leads l.text l.initial.cursor (while (λ ts. not (ahead_of (125 ∷ []) ts)) (group_due l.n) (names_of l.text l.initial.places l.initial.lists l.initial.count)) l.cursor
    (while (λ ts. not (ahead_of (125 ∷ []) ts)) (group_due l.n) (names_of l.text l.places l.lists l.count))
    × Sized l.places l.lists
    × (alive l.cursor ≡ true → Grown signals_most l.n (names_of l.text l.initial.places l.initial.lists l.initial.count) (names_of l.text l.places l.lists l.count) × (l.n ≤ signals_most) × Chained l.text l.places l.count)

abbrev pub decreases-loop-places : goal.decreases-loop-places
decreases-loop-places l = room l.text l.cursor
