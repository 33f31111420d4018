-- Each turn takes the next signal: a mark where its character is `#`.
use Prim.Native.Nat.{◌+◌, ◌<◌}
use native.Mathlib.Omega.{arith}
use mathlib.Core.Path.{refl}
use lib.ListN.{length}
use borrow.Author.Tests.{eq-eqb, ne_eqb}
use Rattle.meaning.specs.Bounds.{signals_most}
use Rattle.measures.proofs.Changed.{changed_none, changed_next, changed_same, changed_rest}
use Rattle.measures.proofs.Counted.{shown_none, uses_shown}
use Rattle.measures.proofs.mark_uses.Goals as goal
use Rattle.measures.proofs.mark_uses.Goals.{then-given-s-eq-MARK, else-given-s-eq-MARK}

pub loop-s-init : goal.loop-s-init
loop-s-init c = changed_none

pub loop-s-preserved : goal.loop-s-preserved
loop-s-preserved c =
    let loop = c.loop-s in
    let x = loop.invariant in
    let inside : signals_most + loop.s < length loop.row = omega (arith, x.long, c.zeros_from-n.ensures.within, c.requires.0, c.requires.1) in
    elim c.if-given-s-eq-MARK.branch [
      | then-given-s-eq-MARK w ↦ rw w.row-is (changed_next x _ (omega arith) _ (omega arith) (rw (eq-eqb _ _ w.if-given-s-eq-MARK.true)))
      | else-given-s-eq-MARK w ↦ rw w.row-is (changed_same x (signals_most + loop.s) refl inside (rw (ne_eqb _ _ w.if-given-s-eq-MARK.false)))
    ]

pub returns : goal.returns
returns c =
    let zeros = c.zeros_from-n.ensures in
    let long = c.requires.0 in
    let all = changed_rest c.loop-s.invariant signals_most (omega (arith, zeros.within, long)) (λ k n l. shown_none _ n (zeros.none k (omega arith))) in
    λ p a b g u. uses_shown refl p g u all
