-- `join` meets its contract: no room on the other page, none on this one, or both together.
use Rattle.flats.proofs.Pages.{joins_both}
use Rattle.flats.proofs.join.Goals as goal

pub returns : goal.returns
returns c = joins_both c.in-Some.is c.bytes_of.ensures c.add-p.ensures c.ok_or.ensures.value
