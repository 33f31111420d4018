use Prim.Native.Nat.{ℕ, ◌*◌, ◌<◌}
use mathlib.Core.Path.{◌≡◌}
use mathlib.Core.Bool.{true}
use mathlib.Core.List.{List}
use Rattle.meaning.specs.Body.{Args, Body}
use Rattle.measures.specs.Uses.{Uses}
use Rattle.arguments.specs.Supplied.{Supplied, block_size, fits_at}
use Rattle.arguments.proofs.fitted.Given as goal

abbrev pub invariant-loop-block : goal.invariant-loop-block
invariant-loop-block l =
    (text : List ℕ) (b : Body) (xs : Args) → Uses b l.row → Supplied text xs l.given l.args → (k : ℕ) → k < l.block * block_size → fits_at b xs l.t k ≡ true
