use mathlib.Core.Path.{◌≡◌}
use mathlib.Core.Bool.{Bool, not}
use mathlib.Core.List.{List}
use lib.ListN.{length}
use Rattle.meaning.specs.Reader.{ahead, while}
use Rattle.meaning.specs.Timing.{Wave, entry}
use Rattle.words.proofs.Loops.{room}
use Rattle.timing.specs.Watch.{Noted, Placed}
use Rattle.timing.proofs.Making.{Looping}
use Rattle.timing.proofs.entries.Given as goal

abbrev pub invariant-loop-watch : goal.invariant-loop-watch
invariant-loop-watch l = (length l.table ≡ length l.initial.table) × Placed l.text l.x.cursor × ((here : Bool) (ws : List Wave) → Noted l.text here l.watch l.initial.table l.initial.x.sight ws → Looping l.text l.initial.x.cursor (while (λ ts. not (ahead "}" ts)) (entry l.sigs) ws) (λ ts. not (ahead "}" ts)) (entry l.sigs) l.x.cursor (Noted l.text here l.watch l.table l.x.sight))

abbrev pub decreases-loop-watch : goal.decreases-loop-watch
decreases-loop-watch l = room l.text l.x.cursor
