-- The quotient tells whether all times of the word are within the most.
use Prim.Native.Nat.{ℕ, ◌*◌}
use native.Mathlib.Omega.{arith}
use native.Mathlib.Nat.{mul-zero, le-div_iff_mul-le, div-lt_iff_lt-mul}
use mathlib.Core.Path.{sym, ap, ◌∙◌}
use Rattle.feeds.proofs.said.Goals as goal

pub returns-then-most-this : goal.returns-then-most-this
returns-then-most-this c = omega (arith, c.saturating_sub-this.ensures)

pub returns-then-width-eq0 : goal.returns-then-width-eq0
returns-then-width-eq0 c =
    let f = c.args.feed in
    let none = ap (λ (z : ℕ). f.left * z) (sym c.saturating_sub-width.ensures ∙ c.if-width-eq0.true) ∙ mul-zero f.left in
    omega (arith, c.saturating_sub-this.ensures, none)

pub returns-then-most-this-2 : goal.returns-then-most-this-2
returns-then-most-this-2 c =
    let f = c.args.feed in
    let width = c.saturating_sub-width in
    let above = (div-lt_iff_lt-mul {k = width.result} (omega (arith, c.if-width-eq0.false))).0 c.if-most-this-2.true in
    omega (arith, c.saturating_sub-this.ensures, ap (λ (z : ℕ). f.left * z) width.ensures, above)

pub overflow_mul-result : goal.overflow_mul-result
overflow_mul-result c =
    let within = (le-div_iff_mul-le {k = c.saturating_sub-width.result} (omega (arith, c.if-width-eq0.false))).0 c.if-most-this-2.false in
    omega (arith, within)

pub overflow_add-result : goal.overflow_add-result
overflow_add-result c =
    let within = (le-div_iff_mul-le {k = c.saturating_sub-width.result} (omega (arith, c.if-width-eq0.false))).0 c.if-most-this-2.false in
    omega (arith, within)

pub returns : goal.returns
returns c =
    let f = c.args.feed in
    let width = c.saturating_sub-width in
    let within = (le-div_iff_mul-le {k = width.result} (omega (arith, c.if-width-eq0.false))).0 c.if-most-this-2.false in
    omega (arith, c.saturating_sub-this.ensures, ap (λ (z : ℕ). f.left * z) width.ensures, within)
