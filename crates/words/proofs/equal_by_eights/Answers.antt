-- `equal_by_eights` meets its contract. The invariant: the bytes before i are equal.
use Prim.Native.Nat.{◌-◌}
use native.Mathlib.Omega.{arith}
use mathlib.Core.Path.{sym, ◌∙◌}
use lib.ListN.{length}
use Rattle.words.proofs.Words.{same_long}
use Rattle.words.proofs.Packed.{eights_differ, eights_more, eights_last}
use Rattle.words.proofs.equal_by_eights.Goals as goal

pub returns-then-n-v : goal.returns-then-n-v
returns-then-n-v c = sym (same_long _ _ c.if-n-v.true)

pub returns-then-n-lt8 : goal.returns-then-n-lt8
returns-then-n-lt8 c = c.equal.ensures

pub loop-i-init : goal.loop-i-init
loop-i-init c = λ k l. absurd (omega arith)

pub returns-then-eight : goal.returns-then-eight
returns-then-eight c =
    eights_differ _ _ c.loop-i.i
    (λ e. c.if-eight.true (c.eight.ensures ∙ e ∙ sym c.eight-in-loop-i.ensures))

pub loop-i-preserved : goal.loop-i-preserved
loop-i-preserved c =
    eights_more c.args.w.now c.args.v.now
    (λ k. omega (arith, c.type_inv.w k))
    (λ k. omega (arith, c.type_inv.v k))
    c.loop-i.i
    (sym c.eight.ensures ∙ c.if-eight.false ∙ c.eight-in-loop-i.ensures)
    c.loop-i.invariant

pub returns : goal.returns
returns c =
    let loop = c.loop-i in
    rw (c.eight-2.ensures, c.eight-3.ensures)
    (eights_last c.args.w.now c.args.v.now
    (λ k. omega (arith, c.type_inv.w k))
    (λ k. omega (arith, c.type_inv.v k))
    (length c.args.w.now - 8)
    c.if-n-v.false
    (omega arith)
    (λ k l. loop.invariant k (omega arith)))
