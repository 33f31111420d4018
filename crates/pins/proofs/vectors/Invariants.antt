use Prim.Native.Nat.{◌-◌, ◌≤◌}
use Rattle.pins.specs.Shown.{Others}
use Rattle.pins.proofs.Cycles.{Searched, After}
use Rattle.pins.proofs.vectors.Given as goal

abbrev pub invariant-loop-s : goal.invariant-loop-s
invariant-loop-s l = Searched l.waves l.values l.signals l.table l.s

abbrev pub invariant-loop-i : goal.invariant-loop-i
invariant-loop-i l = (l.i ≤ l.t) × Others l.level l.initial.values l.values l.initial.feeds l.feeds × After l.text l.given l.waves l.initial.values l.initial.feeds l.level l.signals l.table l.t l.i l.values l.feeds

abbrev pub decreases-loop-i : goal.decreases-loop-i
decreases-loop-i l = l.t - l.i
