-- `in_ps` meets its contract: a nanosecond is 1000 ps, and a number that the code does not hold stays above all that it holds.
use mathlib.Core.Path.{sym, ap, ◌∙◌}
use mathlib.Core.Option.{some}
use native.Mathlib.Omega.{arith}
use Rattle.tokens.specs.Written.{bytes}
use Rattle.words.specs.Values.{capped}
use Rattle.words.proofs.Numbers.{unit_ps, unit_ns, unit_other}
use Rattle.words.proofs.in_ps.Goals as goal

pub returns-then-equal : goal.returns-then-equal
unfolding bytes
returns-then-equal c = λ m e d. ap some e ∙ sym (ap capped (unit_ps m _ (sym c.equal.ensures ∙ c.if-equal.true)))

pub returns-then-not-equal : goal.returns-then-not-equal
unfolding bytes
returns-then-not-equal c =
    let no-ps = sym c.equal.ensures ∙ c.if-equal.false in
    let no-ns = sym c.equal-2.ensures ∙ c.if-not-equal.true in
    λ m e d. sym (ap capped (unit_other m _ d no-ps no-ns))

pub returns : goal.returns
unfolding bytes
returns c =
    let ns = sym c.equal-2.ensures ∙ c.if-not-equal.false in
    λ m e d. ap some (omega arith) ∙ sym (ap capped (unit_ns m _ ns))
