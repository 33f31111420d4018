use Prim.Native.Nat.{ℕ}
use mathlib.Core.Path.{◌≡◌}
use mathlib.Core.Bool.{not, ◌&&◌, true, false}
use mathlib.Core.List.{List}
use lib.Dec.{eqb}
use Rattle.meaning.specs.Timing.{Events, spread}
use Rattle.timing.specs.Events.{all_events, Lettered, Timed}
use Rattle.timing.proofs.EventTimes.{Upto}
use Rattle.timing.proofs.add.Given as goal

abbrev pub invariant-loop-i : goal.invariant-loop-i
invariant-loop-i l = (s : Events) (es : List ℕ) → Timed l.n l.times.count l.times.least s → Lettered l.a.n l.a.l es → (not (eqb l.a.n 1) && not (eqb l.a.n l.n)) ≡ false → all_events es ≡ true → Upto l.n l.t (spread l.n es) s l.i l.least
