-- `put` meets its contract: three puts one behind the other, within the room for all of them.
use Rattle.intake.proofs.Stores.{put_three, room_one, room_two, room_three}
use Rattle.intake.proofs.put.Goals as goal

pub put_if-behind_mark-requires : goal.put_if-behind_mark-requires
put_if-behind_mark-requires c =
    let args = c.args in
    λ due. room_one args.run args.b args.c args.store.now args.at c.requires due

pub put_if-behind_slash-requires : goal.put_if-behind_slash-requires
put_if-behind_slash-requires c =
    let args = c.args in
    λ due. room_two args.run args.b args.c args.store.now args.at
    c.requires c.put_if-behind_mark.ensures due

pub put_if-requires : goal.put_if-requires
put_if-requires c =
    let args = c.args in
    λ due. room_three args.run args.b args.c args.store.now args.at
    c.requires
    c.put_if-behind_mark.ensures c.put_if-behind_slash.ensures due

pub returns : goal.returns
returns c =
    let args = c.args in
    put_three args.run args.b args.c args.store.now args.at
    c.requires
    c.put_if-behind_mark.ensures
    c.put_if-behind_slash.ensures c.put_if.ensures
