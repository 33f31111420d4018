use Prim.Native.Nat.{ℕ, ◌+◌, ◌<◌}
use mathlib.Core.Path.{◌≡◌}
use mathlib.Core.Bool.{true}
use Rattle.meaning.specs.Timing.{Tables}
use Rattle.pins.specs.Shown.{table_of}
use Rattle.sums.specs.Sums.{ok_at}
use Rattle.tallies.specs.Rows.{flag_in, Marked}
use Rattle.tallies.proofs.fits_where.Given as goal

abbrev pub invariant-loop-t : goal.invariant-loop-t
invariant-loop-t l = ((tabs : Tables) → Marked l.waves tabs → (k : ℕ) → k < l.t → flag_in l.row (l.place + k) ≡ true → ok_at tabs (table_of k) l.s l.x ≡ true)
