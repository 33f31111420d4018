-- `take` meets its contract: an answer that is no open intake stays; what a look with the store's room answered is the answer, and only a chunk that passes is written.
use mathlib.Core.Path.{◌∙◌}
use Rattle.tokens.proofs.Results.{handed_on}
use Rattle.intake.proofs.Turns.{look_said, look_passes, taken_on, taken_refused, take_open, take_refused, take_closed}
use Rattle.intake.proofs.take.Goals as goal

pub returns-in_err-it : goal.returns-in_err-it
returns-in_err-it c =
    let args = c.args in
    let p = take_refused args.chunk.now args.store.now c.in_err-it.was (handed_on _ _ c.from_residual.ensures.1) in
    record { value = p.0; store_after = p.1 }

pub returns-in_default : goal.returns-in_default
returns-in_default c =
    let args = c.args in
    let p = take_closed args.chunk.now args.store.now c.in_ok-it.was c.in_default.is in
    record { value = p.0; store_after = p.1 }

pub returns-in_err-behind : goal.returns-in_err-behind
returns-in_err-behind c =
    let args = c.args in
    let said = look_said c.in-Open.it args.chunk.now args.store.now c.room.ensures c.in_err-behind.ensures in
    let q = taken_refused c.in-Open.it args.chunk.now args.store.now said in
    let p = take_open args.chunk.now args.store.now c.in_ok-it.was c.in-Open.is q in
    record { value = handed_on _ _ c.from_residual-in_err-behind.ensures.1 ∙ p.0; store_after = p.1 }

pub fill-requires : goal.fill-requires
fill-requires c =
    let args = c.args in
    look_passes c.in-Open.it args.chunk.now args.store.now (look_said c.in-Open.it args.chunk.now args.store.now c.room.ensures c.in_ok-behind.ensures)

pub returns : goal.returns
returns c =
    let args = c.args in
    let said = look_said c.in-Open.it args.chunk.now args.store.now c.room.ensures c.in_ok-behind.ensures in
    let q = taken_on c.in-Open.it args.chunk.now args.store.now said c.fill.ensures in
    let p = take_open args.chunk.now args.store.now c.in_ok-it.was c.in-Open.is q in
    record { value = p.0; store_after = p.1 }
