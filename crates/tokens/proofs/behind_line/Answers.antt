-- `behind_line` meets its contract. The invariant: reading in the `//` gives from here what it gives from `at`.
use mathlib.Core.Path.{sym, ◌∙◌}
use native.Mathlib.Omega.{arith}
use Rattle.tokens.specs.Tokens.{line}
use Rattle.tokens.proofs.Reading.{led_to_lem, led_on, bad_stops, line_ends, line_goes, line_over}
use Rattle.tokens.proofs.behind_line.Goals as goal

pub returns-then-b-eq10 : goal.returns-then-b-eq10
returns-then-b-eq10 c =
    led_on c.loop-i.invariant.1 (omega arith) (line_ends _ _ c.loop-i-test.true c.if-b-eq10.true)

pub returns-then-not-is_allowed : goal.returns-then-not-is_allowed
returns-then-not-is_allowed c =
    rw c.bad_byte.ensures
    (led_to_lem c.loop-i.invariant.1
    (bad_stops _ _ line c.loop-i-test.true (sym c.is_allowed.ensures ∙ c.if-not-is_allowed.true)))

pub loop-i-preserved : goal.loop-i-preserved
loop-i-preserved c =
    let on = sym c.is_allowed.ensures ∙ c.if-not-is_allowed.false in
    (omega arith, c.loop-i.invariant.1 ∙ line_goes _ _ c.loop-i-test.true on c.if-b-eq10.false)

pub returns : goal.returns
returns c = led_to_lem c.loop-i.invariant.1 (line_over _ _ c.loop-i-test.false)
