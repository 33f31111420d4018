-- `fitting` meets its contract: nothing fits where rows have no bytes.
use native.Mathlib.Nat.{div-zero}
use native.Mathlib.Omega.{arith}
use Rattle.listing.proofs.fitting.Goals as goal

pub returns-then-width-eq0 : goal.returns-then-width-eq0
returns-then-width-eq0 c =
    let a = c.args in
    rw (c.if-width-eq0.true, div-zero a.room) (omega arith)
