-- `four` meets its contract: its halves are small enough, so that nothing wraps.
use Prim.Native.Nat.{◌+◌}
use native.Mathlib.Omega.{arith}
use Rattle.words.proofs.Packed.{two_below, four_of}
use Rattle.words.proofs.four.Goals as goal

pub overflow_mul-result : goal.overflow_mul-result
overflow_mul-result c =
    let w = c.args.w.now in
    let i = c.args.i in
    omega (arith, two_below w (λ k. omega (arith, c.type_inv.w k)) (i + 2))

pub overflow_add-result : goal.overflow_add-result
overflow_add-result c =
    let w = c.args.w.now in
    let i = c.args.i in
    omega (arith, two_below w (λ k. omega (arith, c.type_inv.w k)) i, two_below w (λ k. omega (arith, c.type_inv.w k)) (i + 2))

pub returns : goal.returns
returns c = omega (arith, four_of c.args.w.now c.args.i)
