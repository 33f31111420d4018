-- `draw` meets its contract: 19, or the events that were read at the front of both buffers.
use native.Mathlib.Omega.{arith}
use mathlib.Core.Path.{refl}
use Rattle.charts.proofs.Rooms.{roomy}
use Rattle.charts.proofs.Drawing.{events_full, events_put}
use Rattle.charts.proofs.draw.Goals as goal

pub returns-then-times-n : goal.returns-then-times-n
returns-then-times-n c = λ es x. events_full (c.read-n.ensures es x) _ _ c.if-times-n.true refl

pub put-requires : goal.put-requires
put-requires c =
    let read = c.read-n in
    let d = read.ensures c.requires.0 c.requires.1 in
    record { n_in_bounds = (omega (arith, d.count, d.few, read.auto.times), omega (arith, d.count, d.few, read.auto.letters)); n_in_bounds_2 = roomy _ _ _ c.if-times-n.false }

pub returns : goal.returns
returns c =
    let read = c.read-n in λ es x.
    events_put (read.ensures es x) _ _ c.if-times-n.false refl refl refl c.put.ensures
