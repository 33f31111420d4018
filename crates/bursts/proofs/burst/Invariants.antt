use Prim.Native.Nat.{◌≤◌}
use mathlib.Core.Path.{◌≡◌}
use mathlib.Core.Bool.{true, not}
use mathlib.Core.List.{[], ◌∷◌}
use lib.ListN.{length}
use Rattle.meaning.specs.Bounds.{list_most}
use Rattle.meaning.specs.Reader.{while, ahead_of}
use Rattle.meaning.specs.Document.{list_entry}
use Rattle.words.specs.Cursor.{alive}
use Rattle.words.proofs.Loops.{Leads, room}
use Rattle.bursts.specs.Listed.{listed_in, list_length}
use Rattle.bursts.proofs.burst.Given as goal

abbrev pub invariant-loop-list : goal.invariant-loop-list
invariant-loop-list l =
    Leads l.text l.initial.cursor (while (λ ts. not (ahead_of (125 ∷ []) ts)) list_entry (listed_in l.text l.initial.list l.initial.count)) l.cursor
    (while (λ ts. not (ahead_of (125 ∷ []) ts)) list_entry (listed_in l.text l.list l.count))
    × (length l.list ≡ list_length)
    × (alive l.cursor ≡ true → l.count ≤ list_most)

abbrev pub decreases-loop-list : goal.decreases-loop-list
decreases-loop-list l = room l.text l.cursor
