use mathlib.Core.Path.{◌≡◌}
use mathlib.Core.Bool.{true, not}
use Rattle.meaning.specs.Reader.{ahead, while}
use Rattle.meaning.specs.Timing.{Events, event}
use Rattle.words.specs.Cursor.{alive}
use Rattle.words.proofs.Loops.{room}
use Rattle.timing.specs.Events.{Timed}
use Rattle.timing.proofs.Making.{Looping}
use Rattle.timing.proofs.events.Given as goal

abbrev pub invariant-loop-times : goal.invariant-loop-times
invariant-loop-times l = (s₀ : Events) → (alive l.initial.cursor ≡ true → Timed l.n l.initial.times.count l.initial.times.least s₀) → Looping l.text l.initial.cursor (while (λ ts. not (ahead "}" ts)) (event l.n) s₀) (λ ts. not (ahead "}" ts)) (event l.n) l.cursor (Timed l.n l.times.count l.times.least)

abbrev pub decreases-loop-times : goal.decreases-loop-times
decreases-loop-times l = room l.text l.cursor
