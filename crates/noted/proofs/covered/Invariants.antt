use mathlib.Core.Path.{◌≡◌}
use mathlib.Core.Bool.{false}
use Rattle.noted.specs.Noted.{Covered}
use Rattle.noted.proofs.covered.Given as goal

abbrev pub invariant-loop-i : goal.invariant-loop-i
invariant-loop-i l = l.missing ≡ false → Covered l.used l.waves l.k l.i
