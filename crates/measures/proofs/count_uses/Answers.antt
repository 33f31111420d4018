-- Each turn takes the next signal: one use more where its character is `#`, up to the cap.
use Prim.Native.Nat.{◌<◌}
use native.Mathlib.Omega.{arith}
use mathlib.Core.Path.{refl}
use lib.ListN.{length, get_or}
use borrow.Author.Tests.{eq-eqb, ne_eqb, lt-ltb, le-ltb}
use Rattle.meaning.specs.Bounds.{signals_most}
use Rattle.measures.specs.Uses.{uses_cap}
use Rattle.measures.proofs.Changed.{changed_none, changed_next, changed_same, changed_rest}
use Rattle.measures.proofs.Counted.{counted_none, uses_counted}
use Rattle.measures.proofs.count_uses.Goals as goal
use Rattle.measures.proofs.count_uses.Goals.{then-given-s-eq-MARK+then-row-s-lt-USES_CAP, else-given-s-eq-MARK, else-given-s-eq-MARK-via-then-given-s-eq-MARK+else-row-s-lt-USES_CAP, else-given-s-eq-MARK-via-else-given-s-eq-MARK}

pub loop-s-init : goal.loop-s-init
loop-s-init c = changed_none

pub loop-s-preserved : goal.loop-s-preserved
loop-s-preserved c =
    let loop = c.loop-s in
    let x = loop.invariant in
    let n = get_or loop.row loop.s 0 in
    let inside : loop.s < length loop.row = omega (arith, x.long, c.zeros_from-n.ensures.within, c.requires.0, c.requires.1) in
    elim c.if-given-s-eq-MARK.branch [
      | then-given-s-eq-MARK+then-row-s-lt-USES_CAP w ↦
          rw w.row-is (changed_next x loop.s (omega arith) _ inside (rw (eq-eqb _ _ w.if-given-s-eq-MARK.true, lt-ltb n uses_cap w.if-row-s-lt-USES_CAP.true)))
      | else-given-s-eq-MARK w ↦
          rw w.row-is
          (changed_same x loop.s (omega arith) inside
          (elim w.else-given-s-eq-MARK.branch [
            | else-given-s-eq-MARK-via-then-given-s-eq-MARK+else-row-s-lt-USES_CAP v ↦
                rw (eq-eqb _ _ v.if-given-s-eq-MARK.true, le-ltb n uses_cap v.if-row-s-lt-USES_CAP.false)
            | else-given-s-eq-MARK-via-else-given-s-eq-MARK v ↦ rw (ne_eqb _ _ v.if-given-s-eq-MARK.false)
          ]))
    ]

pub returns : goal.returns
returns c =
    let zeros = c.zeros_from-n.ensures in
    let long = c.requires.0 in
    let all = changed_rest c.loop-s.invariant signals_most (omega (arith, zeros.within, long)) (λ k n l. counted_none _ n (zeros.none k (omega arith))) in
    λ p a b g u. uses_counted refl p g u all
