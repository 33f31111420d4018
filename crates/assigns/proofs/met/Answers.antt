-- What is left of the row decides: a turn whose signal has no character leaves the answer to the rest.
use mathlib.Core.Path.{sym, ◌∙◌}
use native.Mathlib.Omega.{arith}
use Rattle.meaning.specs.Data.{assigned}
use Rattle.meaning.specs.Bounds.{signals_most}
use Rattle.sets.proofs.Tidy.{TidyBelow}
use Rattle.assigns.proofs.Rows.{tidy_below, meets_here, meets_next, meets_end}
use Rattle.assigns.proofs.Table.{given_some, given_none}
use Rattle.assigns.proofs.met.Goals as goal

pub bounds-given-s : goal.bounds-given-s
bounds-given-s c =
    let tidy : TidyBelow signals_most c.signals_of-signals.result.now = rw c.signals_of-signals.ensures c.requires.tidy in
    omega (arith, tidy_below tidy c.loop-s.s-index c.loop-s-test.true, c.requires.long)

pub returns-then-given-s-ne0 : goal.returns-then-given-s-ne0
returns-then-given-s-ne0 c =
    let row = c.signals_of-signals.ensures in
    let below = tidy_below (rw row c.requires.tidy) c.loop-s.s-index c.loop-s-test.true in
    λ xs g.
    rw (← row)
    (sym (c.loop-s.invariant xs g ∙ meets_here _ c.loop-s.s-index c.loop-s-test.true (assigned xs) (given_some g _ below c.if-given-s-ne0.true)))

pub loop-s-preserved : goal.loop-s-preserved
loop-s-preserved c =
    let below = tidy_below (rw c.signals_of-signals.ensures c.requires.tidy) c.loop-s.s-index c.loop-s-test.true in
    λ xs g. c.loop-s.invariant xs g ∙ meets_next _ c.loop-s.s-index c.loop-s-test.true (assigned xs) (given_none g _ below c.if-given-s-ne0.false)

pub returns : goal.returns
returns c =
    λ xs g. rw (← c.signals_of-signals.ensures) (sym (c.loop-s.invariant xs g ∙ meets_end _ c.loop-s.s-index (omega arith) (assigned xs)))
