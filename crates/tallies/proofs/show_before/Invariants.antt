use mathlib.Core.Path.{◌≡◌}
use mathlib.Core.Bool.{true}
use Rattle.meaning.specs.Timing.{Tables}
use Rattle.meaning.specs.Meaning.{has_wave, table_at}
use Rattle.tallies.specs.Rows.{Marked}
use Rattle.tallies.proofs.Narrowed.{Narrowed}
use Rattle.tallies.proofs.show_before.Given as goal

abbrev pub invariant-loop-k : goal.invariant-loop-k
invariant-loop-k l = Narrowed (λ j. (tabs : Tables) → Marked l.waves tabs → has_wave l.s l.x (table_at tabs j) ≡ true) l.r l.k l.initial.sums l.sums
