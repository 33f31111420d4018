use Prim.Native.Nat.{ℕ, ◌+◌, ◌<◌}
use mathlib.Core.Path.{◌≡◌}
use mathlib.Core.Bool.{true}
use mathlib.Core.List.{List}
use Rattle.meaning.specs.Body.{Args, Body}
use Rattle.measures.specs.Uses.{Uses}
use Rattle.arguments.specs.Supplied.{Supplied, fits_at}
use Rattle.arguments.proofs.block_fits.Given as goal

abbrev pub invariant-loop-k : goal.invariant-loop-k
invariant-loop-k l =
    (text : List ℕ) (b : Body) (xs : Args) → Uses b l.row → Supplied text xs l.given l.args → (i : ℕ) → i < l.k → fits_at b xs l.t (l.from + i) ≡ true
