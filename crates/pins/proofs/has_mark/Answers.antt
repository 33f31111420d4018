-- The mark of the character, if it is one.
use Prim.Native.Nat.{ℕ}
use mathlib.Core.Path.{◌≡◌}
use borrow.Author.Tests.{eqb-true}
use native.Mathlib.Omega.{arith}
use Rattle.pins.proofs.has_mark.Goals as goal

pub returns-then-c-ge-CHARS : goal.returns-then-c-ge-CHARS
returns-then-c-ge-CHARS c = λ e. let z : ◌≡◌ {A = ℕ} 0 1 = cc in absurd (omega arith)

pub returns : goal.returns
returns c = λ e. (omega arith, eqb-true _ _ e)
