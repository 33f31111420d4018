-- `fill` meets its contract. The invariant: writing the rest from here gives the store that writing the whole chunk gives.
use mathlib.Core.Path.{refl}
use Rattle.intake.proofs.Turns.{byte_free, fill_room, filled_on, filled_all}
use Rattle.intake.proofs.fill.Goals as goal

pub loop-b-init : goal.loop-b-init
loop-b-init c = record { passed = c.requires; is = refl; kept = refl }

pub put-end-requires : goal.put-end-requires
put-end-requires c =
    let loop = c.loop-b in
    fill_room loop.invariant c.loop-b-test.true c.changes-c.result c.changes-c.ensures

pub moved-here-requires : goal.moved-here-requires
moved-here-requires c =
    let loop = c.loop-b in
    (byte_free loop.invariant c.loop-b-test.true).short

pub loop-b-preserved : goal.loop-b-preserved
loop-b-preserved c =
    let loop = c.loop-b in
    filled_on loop.invariant c.loop-b-test.true
    c.changes-c.result c.changes-c.ensures
    c.put-end.ensures c.moved-here.ensures

pub shape_of-store : goal.shape_of-store
shape_of-store c = c.loop-b.invariant.kept

pub returns : goal.returns
returns c = filled_all c.loop-b.invariant c.loop-b-test.false
