-- `number_up_to` meets its contract. The invariant: the digits that are left, behind n, stand for the word's number, and n is not too large yet.
use Prim.Native.Nat.{ℕ, ◌+◌}
use mathlib.Core.Path.{refl, sym, ap, ◌∙◌}
use native.Mathlib.Omega.{arith}
use lib.ListN.{drop}
use borrow.Author.Tests.{eqb-true, eqb-false}
use Rattle.meaning.specs.Names.{value}
use Rattle.words.specs.Values.{value_of, up_to}
use Rattle.words.proofs.Numbers.{number_some, nothing_up_to, digit_none, digit_next, digit_large, digits_end, up_to_some}
use Rattle.words.proofs.number_up_to.Goals as goal

pub returns-then-is_empty : goal.returns-then-is_empty
returns-then-is_empty c = nothing_up_to c.args.most c.args.word.now (eqb-true _ _ (sym c.is_empty.ensures ∙ c.if-is_empty.true))

pub loop-b-init : goal.loop-b-init
loop-b-init c = (omega arith, refl)

pub returns-then-not-is_digit : goal.returns-then-not-is_digit
returns-then-not-is_digit c =
    let loop = c.loop-b in
    let other = sym c.is_digit.ensures ∙ c.if-not-is_digit.true in
    let all = number_some c.args.word.now (omega arith) ∙ loop.invariant.1 in
    digit_none c.args.most c.args.word.now loop.n loop.b-index c.loop-b-test.true other ∙ sym (ap (up_to c.args.most) all)

pub returns-in_err-n : goal.returns-in_err-n
returns-in_err-n c =
    let loop = c.loop-b in
    let one = sym c.is_digit.ensures ∙ c.if-not-is_digit.false in
    let all = number_some c.args.word.now (omega arith) ∙ loop.invariant.1 in
    ap value_of c.from_residual.ensures
    ∙ digit_large c.args.most c.args.word.now loop.n loop.b-index c.from.result c.loop-b-test.true one (c.from.ensures ∙ c.saturating_sub.ensures) c.in_err-n.ensures
    ∙ sym (ap (up_to c.args.most) all)

pub loop-b-preserved : goal.loop-b-preserved
loop-b-preserved c =
    let loop = c.loop-b in
    let one = sym c.is_digit.ensures ∙ c.if-not-is_digit.false in
    let next = digit_next c.args.most c.args.word.now loop.n loop.b-index c.from.result c.loop-b-test.true one (c.from.ensures ∙ c.saturating_sub.ensures) in
    let more = up_to_some c.args.most _ _ c.in_ok-n.ensures in
    (omega (arith, more.0, more.1), loop.invariant.1 ∙ next ∙ ap (λ (x : ℕ). value x (drop (loop.b-index + 1) c.args.word.now)) (sym more.0))

pub returns : goal.returns
returns c =
    let loop = c.loop-b in
    let some = eqb-false _ _ (sym c.is_empty.ensures ∙ c.if-is_empty.false) in
    let all = number_some c.args.word.now (omega (arith, some)) ∙ loop.invariant.1 in
    digits_end c.args.most c.args.word.now loop.n loop.b-index c.loop-b-test.false loop.invariant.0 ∙ sym (ap (up_to c.args.most) all)
