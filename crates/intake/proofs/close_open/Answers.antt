-- `close_open` meets its contract: an open comment, no room, or what waits is written.
use mathlib.Core.Path.{sym, ◌∙◌}
use Rattle.intake.proofs.Turns.{room_said, close_in_comment, close_no_room, close_room, close_closes}
use Rattle.intake.proofs.close_open.Goals as goal

pub returns-then-it : goal.returns-then-it
returns-then-it c =
    let args = c.args in
    let p = close_in_comment args.store.now args.it c.if-it.true in
    record { value = p.0; store_after = p.1 }

pub returns-then-lacks : goal.returns-then-lacks
returns-then-lacks c =
    let args = c.args in
    let said =
    room_said args.store.now args.it.stored c.room.ensures
    (c.count-n.ensures 0) (sym c.lacks.ensures ∙ c.if-lacks.true) in
    let p = close_no_room args.store.now args.it c.if-it.false c.last-c.ensures said in
    record { value = p.0; store_after = p.1 }

pub put-end-requires : goal.put-end-requires
put-end-requires c =
    let args = c.args in
    let said =
    room_said args.store.now args.it.stored c.room.ensures
    (c.count-n.ensures 0) (sym c.lacks.ensures ∙ c.if-lacks.false) in
    close_room args.store.now args.it c.if-it.false
    c.last-c.ensures said

pub returns : goal.returns
returns c =
    let args = c.args in
    let said =
    room_said args.store.now args.it.stored c.room.ensures
    (c.count-n.ensures 0) (sym c.lacks.ensures ∙ c.if-lacks.false) in
    let p = close_closes args.store.now args.it c.if-it.false c.last-c.ensures said c.put-end.ensures in
    record { value = p.0; store_after = p.1 }
