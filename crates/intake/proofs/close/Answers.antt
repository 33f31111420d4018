-- `close` meets its contract: an answer that is no open intake stays.
use Rattle.tokens.proofs.Results.{handed_on}
use Rattle.intake.proofs.Turns.{close_open, close_refused, close_closed}
use Rattle.intake.proofs.close.Goals as goal

pub returns-in_err-it : goal.returns-in_err-it
returns-in_err-it c =
    let p = close_refused c.args.store.now c.in_err-it.was (handed_on _ _ c.from_residual.ensures.1) in
    record { value = p.0; store_after = p.1 }

pub returns-in-Open : goal.returns-in-Open
returns-in-Open c =
    let p = close_open c.args.store.now c.in_ok-it.was c.in-Open.is (c.close_open.ensures.value, c.close_open.ensures.store_after) in
    record { value = p.0; store_after = p.1 }

pub returns-in-Closed : goal.returns-in-Closed
returns-in-Closed c =
    let p = close_closed c.args.store.now c.in_ok-it.was c.in-Closed.is in
    record { value = p.0; store_after = p.1 }
