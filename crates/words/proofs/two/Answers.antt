-- `two` meets its contract: a byte is below 256, so that nothing wraps.
use Prim.Native.Nat.{◌+◌}
use native.Mathlib.Omega.{arith}
use Rattle.words.proofs.Packed.{two_of_lem}
use Rattle.words.proofs.two.Goals as goal

pub overflow_mul-result : goal.overflow_mul-result
overflow_mul-result c =
    let i = c.args.i in
    omega (arith, c.type_inv.w (i + 1))

pub overflow_add-result : goal.overflow_add-result
overflow_add-result c =
    let i = c.args.i in
    omega (arith, c.type_inv.w i, c.type_inv.w (i + 1))

pub returns : goal.returns
returns c =
    omega (arith, two_of_lem c.args.w.now c.args.i)
