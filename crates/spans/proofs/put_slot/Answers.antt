-- `put_slot` meets its contract: it stays 0, or is filled.
use native.Mathlib.Omega.{arith}
use Rattle.meaning.specs.Edges.{first_time, last_time}
use Rattle.spans.proofs.Filling.{upto_more, empty_slot}
use Rattle.spans.proofs.put_slot.Goals as goal

pub returns-then-spot-eq0 : goal.returns-then-spot-eq0
returns-then-spot-eq0 c =
    λ ws f l x g y z a b. empty_slot ws c.args.j c.args.i x y z a b c.requires.spots_len.5 c.if-spot-eq0.true

pub bounds-owners-place-2 : goal.bounds-owners-place-2
bounds-owners-place-2 c = omega (arith, c.requires.spots_len.3)

pub returns : goal.returns
returns c =
    λ ws f l x g y z a b. (
    let spot = c.slot-x.ensures ws f l x g a b in (
      upto_more first_time _ ws c.args.i a c.put.ensures spot.drives.first spot.compares.first,
      upto_more last_time _ ws c.args.i b c.put-2.ensures spot.drives.last spot.compares.last,
    ))
