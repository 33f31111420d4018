-- `behind_block` meets its contract. The invariant: reading in the `/*` gives from here what it gives from `at`.
use mathlib.Core.Path.{◌∙◌, sym}
use native.Mathlib.Omega.{arith}
use Rattle.tokens.proofs.Reading.{led_to_lem, led_on, bad_stops, block_closes, block_goes, star_goes, block_over}
use Rattle.tokens.proofs.behind_block.Goals as goal
use Rattle.tokens.proofs.behind_block.Goals.{then-b-eq42+else-byte_at-eq47, else-b-eq42}

pub returns-then-not-is_allowed : goal.returns-then-not-is_allowed
returns-then-not-is_allowed c =
    rw c.bad_byte.ensures
    (led_to_lem c.loop-i.invariant.1
    (bad_stops _ _ _ c.loop-i-test.true (sym c.is_allowed.ensures ∙ c.if-not-is_allowed.true)))

pub returns-then-byte_at-eq47 : goal.returns-then-byte_at-eq47
returns-then-byte_at-eq47 c =
    led_on c.loop-i.invariant.1 (omega arith)
    (block_closes _ _ _ c.loop-i-test.true c.if-b-eq42.true (sym c.byte_at.ensures ∙ c.if-byte_at-eq47.true))

pub loop-i-preserved : goal.loop-i-preserved
loop-i-preserved c =
    let on = sym c.is_allowed.ensures ∙ c.if-not-is_allowed.false in
    elim c.if-b-eq42.branch [
      | then-b-eq42+else-byte_at-eq47 w ↦ (omega arith, c.loop-i.invariant.1 ∙ star_goes _ _ _ c.loop-i-test.true on (λ e. w.if-byte_at-eq47.false (w.byte_at.ensures ∙ e)))
      | else-b-eq42 w ↦ (omega arith, c.loop-i.invariant.1 ∙ block_goes _ _ _ c.loop-i-test.true on w.if-b-eq42.false)
    ]

pub returns : goal.returns
returns c = led_to_lem c.loop-i.invariant.1 (block_over _ _ _ c.loop-i-test.false)
