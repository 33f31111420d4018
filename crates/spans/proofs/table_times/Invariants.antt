use mathlib.Core.Path.{◌≡◌}
use mathlib.Core.List.{List}
use lib.ListN.{length}
use Rattle.meaning.specs.Timing.{Wave}
use Rattle.meaning.specs.Edges.{first_time, last_time}
use Rattle.spots.specs.Spots.{Spots}
use Rattle.spans.specs.Parts.{Fit, Clear, Upto, owners_most}
use Rattle.spans.proofs.table_times.Given as goal

abbrev pub invariant-loop-i : goal.invariant-loop-i
invariant-loop-i l =
    (length l.owners ≡ owners_most)
    × ((ws : List Wave) → Spots l.text l.spots ws → Fit ws → Clear l.j l.initial.firsts → Clear l.j l.initial.lasts → Upto first_time l.j ws l.i l.initial.firsts l.firsts × Upto last_time l.j ws l.i l.initial.lasts l.lasts)
