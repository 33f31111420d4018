-- `time` meets its contract. The invariant: what is left, behind n, stands for what the whole word stands for, as far as the code holds it.
use mathlib.Core.Path.{refl, sym, ap, ◌∙◌}
use native.Mathlib.Omega.{arith}
use Rattle.tokens.specs.Bytes.{digit}
use Rattle.words.specs.Values.{capped}
use Rattle.words.proofs.Words.{rest_first}
use Rattle.words.proofs.Numbers.{first_digit, unit_next, time_none, time_unit, time_end}
use Rattle.words.proofs.time.Goals as goal

pub loop-i-init : goal.loop-i-init
loop-i-init c = (omega arith, refl, λ h. absurd (omega arith))

pub returns-then-i-eq0 : goal.returns-then-i-eq0
returns-then-i-eq0 c = sym (ap capped (time_none _ _ c.if-i-eq0.true (sym c.is_digit.ensures ∙ c.if-not-is_digit.true)))

pub returns-then-not-is_digit : goal.returns-then-not-is_digit
returns-then-not-is_digit c =
    let w = c.args.w.now in
    let other = sym c.is_digit.ensures ∙ c.if-not-is_digit.true in
    time_unit w c.loop-i.n c.loop-i.i (c.loop-i.invariant.2 (omega arith)) c.loop-i.invariant.1
    (c.in_ps.ensures c.loop-i.n (omega arith) (ap digit (rest_first w c.loop-i.i) ∙ other))

pub loop-i-preserved : goal.loop-i-preserved
loop-i-preserved c =
    let w = c.args.w.now in
    let one = sym c.is_digit.ensures ∙ c.if-not-is_digit.false in
    let grown = c.longer-n.ensures.is one c.loop-i.n (omega arith) in (
      omega arith,
      c.loop-i.invariant.1 ∙ unit_next _ _ _ c.loop-i-test.true one grown,
      λ h. first_digit w c.loop-i.i c.loop-i.invariant.2 one,
    )

pub returns : goal.returns
returns c = sym (time_end _ _ _ c.loop-i.invariant.2 c.loop-i-test.false c.loop-i.invariant.1)
