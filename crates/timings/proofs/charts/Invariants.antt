use mathlib.Core.Path.{◌≡◌}
use mathlib.Core.List.{List, [], ◌++◌}
use Rattle.meaning.specs.Timing.{Wave}
use Rattle.folded.specs.Pieces.{laid, each}
use Rattle.folded.specs.Flat.{Chart}
use Rattle.folded.specs.Layout.{chart_put}
use Rattle.pens.specs.Pens.{Writes}
use Rattle.spots.specs.Spots.{Spots}
use Rattle.timings.proofs.Writing.{charts_in}
use Rattle.timings.proofs.charts.Given as goal

abbrev pub invariant-loop-i : goal.invariant-loop-i
invariant-loop-i l = (ws : List Wave) → Spots l.text l.spots ws → (front : List Chart) × Writes l.initial.page l.initial.p (laid (each chart_put front [])) l.page l.p × (front ++ charts_in l.text l.places l.count ws l.i ≡ charts_in l.text l.places l.count ws 0)
