-- `unshifted` meets its contract. The invariant: as long as nothing was found, none of the marks so far is one.
use native.Mathlib.Omega.{arith}
use mathlib.Core.Path.{◌≡◌, sym, ◌∙◌}
use Prim.Native.Nat.{ℕ, ◌-◌}
use lib.ListN.{length, get_or, drop, length-take, length-drop}
use lib.Seq.{get_or-take, get_or-drop}
use borrow.Author.Count.{below_more}
use borrow.Author.Tests.{eqb-true, not-true, not-false}
use Rattle.tokens.proofs.Bools.{neither}
use Rattle.meaning.specs.Bounds.{signals_most}
use Rattle.arguments.proofs.unshifted.Goals as goal

pub loop-mark-preserved : goal.loop-mark-preserved
loop-mark-preserved c =
    let loop = c.loop-mark in
    λ e.
    let p = neither _ _ e in
    below_more (λ (k : ℕ). get_or _ k 0 ≡ 0) loop.mark-index (loop.invariant p.0) (eqb-true _ _ (not-false _ p.1))

pub returns : goal.returns
returns c =
    let row = c.args.row.now in
    let n = length row - signals_most in
    λ e k l.
    sym (get_or-take n (drop signals_most row) k 0 (omega (arith, c.requires)) ∙ get_or-drop signals_most row k 0)
    ∙ c.loop-mark.invariant (not-true _ e) k (omega (arith, c.requires, length-take n (drop signals_most row), length-drop signals_most row))
