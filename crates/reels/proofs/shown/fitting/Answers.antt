-- `fitting` meets its contract: a page divided by a row's width holds so many rows, and one at least.
use Prim.Native.Nat.{ℕ, ◌+◌, ◌*◌, ◌/◌, ◌≤◌, ◌<◌, min}
use mathlib.Core.Path.{◌≡◌}
use native.Mathlib.Nat.{le_trans, le_refl, mul-le-mul, div-mul-le_self, le-div_iff_mul-le}
use native.Mathlib.Omega.{arith}
use Rattle.meaning.specs.Bounds.{signals_most}
use Rattle.reels.proofs.shown.fitting.Goals as goal

rows_fit : (width n : ℕ) → n ≤ 1048576 / width → n * width ≤ 1048576
rows_fit width n h = le_trans (mul-le-mul h (le_refl width)) (div-mul-le_self 1048576 width)

row_fits : (width : ℕ) → 2 ≤ width → width ≤ signals_most + 2 → 0 < 1048576 / width
row_fits width h k = (le-div_iff_mul-le {k = width} {x = 1} {y = 1048576} (omega arith)).1 (omega arith)

-- the smaller of two is no larger than either, and 0 only where one is
below : (a b r : ℕ) → r ≡ min a b → (r ≤ a) × (r ≤ b) × (0 < a → 0 < b → 0 < r)
below a b r e = (omega arith, omega arith, λ h k. omega arith)

pub returns : goal.returns
returns c =
    let a = c.args in
    let r = c.min.result in
    let e = below a.left (1048576 / a.width) r c.min.ensures in
    (e.0, rows_fit a.width r e.1, λ h. e.2 h (row_fits a.width c.requires.0 c.requires.1))
