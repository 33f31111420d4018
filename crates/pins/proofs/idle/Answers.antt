-- Eight bytes at once, where they begin at an eighth place.
use native.Mathlib.Omega.{arith}
use Prim.Native.Nat.{ℕ}
use mathlib.Core.Path.{◌≡◌}
use Rattle.pins.proofs.Putting.{idle_told}
use Rattle.pins.proofs.idle.Goals as goal

pub returns-then-s-ne0 : goal.returns-then-s-ne0
returns-then-s-ne0 c = λ e. (let z : ◌≡◌ {A = ℕ} 0 1 = cc in absurd (omega arith))

pub returns : goal.returns
returns c = idle_told c.zeros_from.ensures
