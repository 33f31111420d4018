-- `hash_of` meets its contract. The invariant: the hash of the whole word is that of the rest behind what was hashed so far.
use mathlib.Core.Path.{refl, sym, ◌∙◌}
use native.Mathlib.Omega.{arith}
use Rattle.labels.proofs.Chains.{hash_more, hash_end}
use Rattle.labels.proofs.hash_of.Goals as goal

pub loop-b-init : goal.loop-b-init
loop-b-init c = (refl, omega arith)

pub overflow_add-h : goal.overflow_add-h
overflow_add-h c =
    let loop = c.loop-b in
    omega (arith, c.from.ensures, c.type_inv.w loop.b-index)

pub loop-b-preserved : goal.loop-b-preserved
loop-b-preserved c =
    let loop = c.loop-b in
    let loop-test = c.loop-b-test in
    (loop.invariant.0 ∙ hash_more _ _ _ loop-test.true ∙ sym (rw c.from.ensures), omega arith)

pub returns : goal.returns
returns c = (sym (c.loop-b.invariant.0 ∙ hash_end _ _ _ c.loop-b-test.false), c.loop-b.invariant.1)
