-- `flat_found` meets its contract: 17 or 25, 23, or what is put on the page.
use native.Mathlib.Omega.{arith}
use Rattle.tokens.proofs.Results.{handed_on}
use Rattle.flats.proofs.Folding.{flat_refused, flat_many, is_meant, flat_put}
use Rattle.flats.proofs.flat_found.Goals as goal

pub returns-in_err-failing : goal.returns-in_err-failing
returns-in_err-failing c = rw (handed_on c.from_residual.result _ c.from_residual.ensures.1) (flat_refused c.args.text.now (c.in_err-failing.ensures _ c.requires.0.found))

pub returns-then-total-gt-CYCLES : goal.returns-then-total-gt-CYCLES
returns-then-total-gt-CYCLES c = flat_many c.requires.0.found (c.in_ok-failing.ensures _ c.requires.0.found) c.if-total-gt-CYCLES.true

pub put-requires : goal.put-requires
put-requires c = (record { it = _; is_meant = is_meant c.requires.0.found (c.in_ok-failing.ensures _ c.requires.0.found) (omega (arith, c.if-total-gt-CYCLES.false)) }, c.requires.1)

pub returns : goal.returns
returns c = flat_put c.requires.0.found (c.in_ok-failing.ensures _ c.requires.0.found) (omega (arith, c.if-total-gt-CYCLES.false)) c.put.ensures
