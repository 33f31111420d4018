-- What is left to put is put behind what is done: a turn takes the next signal and the next character.
use mathlib.Core.Path.{sym, ap, ap₂, ◌∙◌}
use mathlib.Core.Logic.{inl, inr}
use mathlib.Core.List.{List}
use Prim.Native.Nat.{ℕ}
use native.Mathlib.Omega.{arith}
use lib.ListN.{length-set}
use Rattle.assigns.specs.Given.{placed}
use Rattle.assigns.proofs.Rows.{tidy_first, placed_next, placed_bare, placed_out}
use Rattle.assigns.proofs.put.Goals as goal

pub loop-s-init : goal.loop-s-init
loop-s-init c =
    let from = c.into_iter-s-iterator.ensures.into_iter_gives in
    let row = ap (λ z. z.a.rest.now) from ∙ ap (λ z. z.rest.now) c.zip-s-items.ensures.first ∙ c.iter.ensures.rest ∙ c.signals_of.ensures in
    let chars = ap (λ z. z.b.rest.now) from ∙ c.zip-s-items.ensures.second.0 in
    record {
      long = c.requires.0.long;
      tidy = rw row c.requires.0.tidy;
      left = sym (ap₂ (λ (ss cs : List ℕ). placed ss cs c.args.given.now) row chars);
    }

pub bounds-given-s : goal.bounds-given-s
bounds-given-s c =
    let inv = c.loop-s.invariant in
    omega (arith, (tidy_first c.in-Some.ensures.steps.0 inv.tidy).0, inv.long)

pub loop-s-preserved : goal.loop-s-preserved
loop-s-preserved c =
    let inv = c.loop-s.invariant in
    let next = c.in-Some.ensures.steps in
    record {
      long = length-set c.loop-s.given _ _ ∙ inv.long;
      tidy = (tidy_first next.0 inv.tidy).1;
      left = inv.left ∙ placed_next c.loop-s.given next.0 next.1;
    }

pub returns : goal.returns
returns c =
    let left = c.loop-s.invariant.left in
    elim c.in-None.ensures.steps [
      | inl w ↦ sym (left ∙ placed_bare _ _ _ w.1.0)
      | inr w ↦ sym (left ∙ placed_out _ _ _ w.1.0)
    ]
