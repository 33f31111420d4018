use mathlib.Core.Path.{◌≡◌}
use mathlib.Core.Bool.{true, not}
use lib.ListN.{length}
use Rattle.meaning.specs.Reader.{ahead, while}
use Rattle.meaning.specs.Timing.{Tables, table}
use Rattle.signals.specs.Names.{names_of}
use Rattle.words.specs.Cursor.{alive}
use Rattle.words.proofs.Loops.{room}
use Rattle.timing.specs.Watch.{Kept}
use Rattle.timing.proofs.Making.{Looping}
use Rattle.timing.proofs.timing.Given as goal

abbrev pub invariant-loop-watch : goal.invariant-loop-watch
invariant-loop-watch l = (length l.tplaces ≡ length l.initial.tplaces) × (length l.waves ≡ length l.initial.waves) × ((tabs₀ : Tables) → (alive l.initial.x.cursor ≡ true → Kept l.text l.initial.tplaces l.initial.waves l.initial.count l.watch l.initial.x.sight tabs₀) → Looping l.text l.initial.x.cursor (while (λ ts. not (ahead "}" ts)) (table (names_of l.text l.places l.lists l.names)) tabs₀) (λ ts. not (ahead "}" ts)) (table (names_of l.text l.places l.lists l.names)) l.x.cursor (Kept l.text l.tplaces l.waves l.count l.watch l.x.sight))

abbrev pub decreases-loop-watch : goal.decreases-loop-watch
decreases-loop-watch l = room l.text l.x.cursor
