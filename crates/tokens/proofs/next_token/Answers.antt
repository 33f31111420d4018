-- `next_token` meets its contract: a text that is too long is refused, and any other's next token is the first from the place.
use mathlib.Core.Path.{sym, ◌∙◌}
use Rattle.tokens.proofs.Results.{handed_on}
use Rattle.tokens.proofs.Reading.{too_long_lem, short_enough}
use Rattle.tokens.proofs.next_token.Goals as goal

pub returns-in_err-short_enough : goal.returns-in_err-short_enough
returns-in_err-short_enough c =
    let told = c.in_err-short_enough.ensures in
    rw (handed_on _ _ c.from_residual.ensures.1, told.1) (sym (too_long_lem _ _ told.0))

pub returns : goal.returns
returns c = c.first_from.ensures ∙ sym (short_enough _ _ c.in_ok-short_enough.ensures)
