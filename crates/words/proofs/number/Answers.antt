-- `number` meets its contract. The invariant: the digits that are left, behind n, stand for the word's number, as far as the code holds it.
use mathlib.Core.Path.{refl, sym, ap, ◌∙◌}
use native.Mathlib.Omega.{arith}
use borrow.Author.Tests.{eqb-true, eqb-false}
use Rattle.words.specs.Values.{capped}
use Rattle.words.proofs.Numbers.{value_next, value_none, value_end, number_some, number_none}
use Rattle.words.proofs.number.Goals as goal

pub returns-then-is_empty : goal.returns-then-is_empty
returns-then-is_empty c = number_none _ (eqb-true _ _ (sym c.is_empty.ensures ∙ c.if-is_empty.true))

pub loop-b-init : goal.loop-b-init
loop-b-init c = (omega arith, refl)

pub returns-then-not-is_digit : goal.returns-then-not-is_digit
returns-then-not-is_digit c =
    let other = sym c.is_digit.ensures ∙ c.if-not-is_digit.true in
    sym (ap capped (number_some _ (omega arith)) ∙ c.loop-b.invariant.1 ∙ value_none _ _ _ c.loop-b-test.true other)

pub loop-b-preserved : goal.loop-b-preserved
loop-b-preserved c =
    let digit = sym c.is_digit.ensures ∙ c.if-not-is_digit.false in
    let grown = c.longer-n.ensures.is digit c.loop-b.n (omega arith) in
    (omega arith, c.loop-b.invariant.1 ∙ value_next _ _ _ c.loop-b-test.true digit grown)

pub returns : goal.returns
returns c =
    let all = ap capped (number_some c.args.w.now (omega (arith, eqb-false _ _ (sym c.is_empty.ensures ∙ c.if-is_empty.false)))) in
    sym (all ∙ c.loop-b.invariant.1 ∙ value_end _ _ _ c.loop-b-test.false c.loop-b.invariant.0)
