-- A digit is a shifted 1.
use native.Mathlib.Omega.{arith}
use Rattle.memos.proofs.Marking.{bit_shifted, bit_few}
use Rattle.memos.proofs.bit_of.Goals as goal

pub returns : goal.returns
returns c =
    let e = bit_shifted c.args.t c.requires in
    let few = bit_few c.args.t c.requires in
    (e, omega (arith, e, few), omega (arith, e, few))
