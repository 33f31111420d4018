-- `events` meets its contract: refused as the text is, or none there, or read again where they stand.
use Rattle.tokens.proofs.Results.{handed_on}
use Rattle.services.proofs.Outlining.{entry, outline_refused, outline_none, outline_read}
use Rattle.services.proofs.events.Goals as goal

pub returns-in_err-j : goal.returns-in_err-j
returns-in_err-j c = rw (handed_on c.from_residual.result _ c.from_residual.ensures.1) (outline_refused _ _ _ _ c.in_err-j.ensures)

pub returns-in_default : goal.returns-in_default
returns-in_default c = outline_none c.in_ok-j.ensures c.in_default.is

pub read-requires : goal.read-requires
read-requires c = record { times_len = c.requires; entry_at = entry c.in_ok-j.ensures c.in-Some.is }

pub returns : goal.returns
returns c =
    let e = entry c.in_ok-j.ensures c.in-Some.is in
    outline_read c.in_ok-j.ensures c.in-Some.is c.requires.0 c.requires.1 (c.read.ensures e.0 e.1)
