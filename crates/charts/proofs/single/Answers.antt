-- `single` meets its contract: none there, or drawn where its entry stands.
use Rattle.charts.proofs.Drawing.{entry, single_none, single_drawn}
use Rattle.charts.proofs.single.Goals as goal

pub draw-requires : goal.draw-requires
draw-requires c = entry c.requires c.sight.ensures c.in-Some.is

pub returns-in-Some : goal.returns-in-Some
returns-in-Some c =
    let e = entry c.requires c.sight.ensures c.in-Some.is in
    single_drawn c.requires c.sight.ensures c.in-Some.is (c.draw.ensures e.0 e.1)

pub returns-in-None : goal.returns-in-None
returns-in-None c = single_none c.requires c.sight.ensures c.in-None.is
