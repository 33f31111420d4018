-- `pack_raw` meets its contract: a place within a raw text, or another.
use Rattle.stil.proofs.Carrying.{raw_near, raw_far}
use Rattle.stil.proofs.pack_raw.Goals as goal

pub returns-then-place-le-RAW : goal.returns-then-place-le-RAW
returns-then-place-le-RAW c = raw_near _ _ c.if-place-le-RAW.true

pub returns : goal.returns
returns c = raw_far _ _ c.if-place-le-RAW.false
