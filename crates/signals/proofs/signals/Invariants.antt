use mathlib.Core.Path.{◌≡◌}
use mathlib.Core.Bool.{true, not}
use mathlib.Core.List.{[], ◌∷◌}
use Rattle.meaning.specs.Reader.{while, ahead_of}
use Rattle.meaning.specs.Signals.{signal as signal_due}
use Rattle.words.specs.Cursor.{alive}
use Rattle.words.proofs.Loops.{Leads, room}
use Rattle.signals.specs.Names.{Chained, Sized, names_of}
use Rattle.signals.proofs.Tidy.{Numbered}
use Rattle.signals.proofs.signals.Given as goal

abbrev pub invariant-loop-places : goal.invariant-loop-places
invariant-loop-places l =
    Leads l.text l.initial.cursor (while (λ ts. not (ahead_of (125 ∷ []) ts)) signal_due (names_of l.text l.initial.places l.initial.lists l.initial.count)) l.cursor
    (while (λ ts. not (ahead_of (125 ∷ []) ts)) signal_due (names_of l.text l.places l.lists l.count))
    × Sized l.places l.lists
    × (alive l.cursor ≡ true → Numbered (names_of l.text l.places l.lists l.count))
    × (alive l.cursor ≡ true → Chained l.text l.places l.count)

abbrev pub decreases-loop-places : goal.decreases-loop-places
decreases-loop-places l = room l.text l.cursor
