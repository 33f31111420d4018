-- `hand_two` meets its contract: no room, or two stores to the front.
use mathlib.Core.Path.{refl}
use Rattle.stil.proofs.Handing.{two_stored, room_none, room_enough, hands_none, hands_all}
use Rattle.stil.proofs.hand_two.Goals as goal

pub returns-then-numbers-lt2 : goal.returns-then-numbers-lt2
returns-then-numbers-lt2 c = hands_none (room_none 2 _ refl c.if-numbers-lt2.true) c.pack.ensures

pub returns : goal.returns
returns c = hands_all (room_enough 2 _ refl c.if-numbers-lt2.false) (two_stored c.args.numbers.now _ _ c.if-numbers-lt2.false)
