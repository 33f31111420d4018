-- The invariant: i of the bytes stand behind the first n.
use mathlib.Core.Path.{refl}
use native.Mathlib.Omega.{arith}
use Rattle.data.proofs.Over.{wrote_more, wrote_all}
use Rattle.data.proofs.copy.Goals as goal

pub loop-i-preserved : goal.loop-i-preserved
loop-i-preserved c =
    let fits = c.fitting-bytes.ensures in
    wrote_more c.loop-i.invariant (omega (arith, fits)) (omega (arith, c.well_formed.0.1)) (omega (arith, fits)) refl

pub returns : goal.returns
returns c =
    let fits = c.fitting-bytes.ensures in
    wrote_all c.loop-i.invariant (omega (arith, fits)) (omega (arith, c.well_formed.0.1)) c.counted.ensures
