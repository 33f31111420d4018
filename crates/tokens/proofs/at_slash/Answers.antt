-- `at_slash` meets its contract: the byte behind the `/` says which comment it opens, or that it stands alone.
use mathlib.Core.Path.{◌∙◌, sym, refl}
use native.Mathlib.Omega.{arith}
use Rattle.tokens.proofs.Reading.{led_to_lem, led_from, slash_opens_line, slash_opens_block, slash_found}
use Rattle.tokens.proofs.at_slash.Goals as goal

pub returns-then-b-eq47 : goal.returns-then-b-eq47
returns-then-b-eq47 c =
    let known = c.requires in
    led_from (slash_opens_line _ _ known.at_in_bounds known.at_value (sym c.byte_at-b.ensures ∙ c.if-b-eq47.true)) _
    (omega arith) c.behind_line.ensures

pub returns-then-b-eq42 : goal.returns-then-b-eq42
returns-then-b-eq42 c =
    let known = c.requires in
    led_from (slash_opens_block _ _ known.at_in_bounds known.at_value (sym c.byte_at-b.ensures ∙ c.if-b-eq42.true)) _
    (omega arith) c.behind_block.ensures

pub returns : goal.returns
returns c =
    let known = c.requires in
    let byte = c.byte_at-b.ensures in
    led_to_lem refl (slash_found _ _ known.at_in_bounds known.at_value (λ e. c.if-b-eq47.false (byte ∙ e)) (λ e. c.if-b-eq42.false (byte ∙ e)))
