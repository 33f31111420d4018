-- `slot` meets its contract: an earlier signal's times, or those that are read.
use Prim.Native.Nat.{◌+◌, ◌/◌, ◌%◌}
use native.Mathlib.Omega.{arith}
use Rattle.spans.proofs.Filling.{char_inside, earlier_slot}
use Rattle.spans.proofs.slot.Goals as goal

pub returns-then-earlier-s : goal.returns-then-earlier-s
returns-then-earlier-s c =
    λ ws f l x g a b. earlier_slot ws c.args.j c.args.i c.args.earlier x a b c.if-earlier-s.true (c.requires.chars_wide_value c.if-earlier-s.true) c.filled.ensures

pub of_spot-requires : goal.of_spot-requires
of_spot-requires c =
    let i = c.args.i in
    (i / 75, c.requires.spots.0, c.requires.spots.1.each (i / 75) (48 + i % 75) (omega arith))

pub returns : goal.returns
returns c =
    let i = c.args.i in
    λ ws f l x g a b. c.of_spot.ensures (i / 75) ws (x.each (i / 75) (48 + i % 75) (omega arith)) g (char_inside i)
