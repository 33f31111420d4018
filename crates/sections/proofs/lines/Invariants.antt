use Prim.Native.Nat.{◌*◌}
use Rattle.sections.specs.Listing.{line_most, Adds}
use Rattle.sections.proofs.Laws.{lines_to}
use Rattle.sections.proofs.lines.Given as goal

abbrev pub invariant-loop-i : goal.invariant-loop-i
invariant-loop-i l = Adds l.initial.page l.at (lines_to l.text l.places l.i) (l.i * line_most) l.end l.page
