use mathlib.Core.Path.{◌≡◌}
use mathlib.Core.Bool.{Bool, not}
use mathlib.Core.List.{List}
use lib.ListN.{length}
use Rattle.meaning.specs.Reader.{ahead, while}
use Rattle.meaning.specs.Timing.{Wave, waveforms}
use Rattle.signals.specs.Names.{names_of}
use Rattle.words.proofs.Loops.{room}
use Rattle.timing.specs.Watch.{Noted}
use Rattle.timing.proofs.Making.{Looping}
use Rattle.timing.proofs.block.Given as goal

abbrev pub invariant-loop-watch : goal.invariant-loop-watch
invariant-loop-watch l = (length l.table ≡ length l.initial.table) × ((here : Bool) (ws : List Wave) → Noted l.text here l.watch l.initial.table l.initial.x.sight ws → Looping l.text l.initial.x.cursor (while (λ ts. not (ahead "}" ts)) (waveforms (names_of l.text l.places l.lists l.names)) ws) (λ ts. not (ahead "}" ts)) (waveforms (names_of l.text l.places l.lists l.names)) l.x.cursor (Noted l.text here l.watch l.table l.x.sight))

abbrev pub decreases-loop-watch : goal.decreases-loop-watch
decreases-loop-watch l = room l.text l.x.cursor
