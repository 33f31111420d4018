use mathlib.Core.Path.{◌≡◌}
use mathlib.Core.List.{List, [], ◌++◌}
use lib.ListN.{drop}
use Rattle.meaning.specs.Timing.{Wave}
use Rattle.folded.specs.Pieces.{laid, each}
use Rattle.folded.specs.Flat.{Entries, entries_of}
use Rattle.folded.specs.Layout.{entry_put}
use Rattle.pens.specs.Pens.{Writes}
use Rattle.spots.specs.Spots.{Spots}
use Rattle.timings.proofs.chart.Given as goal

abbrev pub invariant-loop-char : goal.invariant-loop-char
invariant-loop-char l = (ws : List Wave) → Spots l.text l.spots ws → (front : Entries) × Writes l.initial.page l.initial.p (laid (each entry_put front [])) l.page l.p × (front ++ entries_of l.s ws (drop l.char-index l.chars) ≡ entries_of l.s ws l.chars)
