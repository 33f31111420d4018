-- Each turn draws the next signal's pin.
use native.Mathlib.Omega.{arith}
use lib.ListN.{length-set}
use Rattle.memos.proofs.Rows.{writes_none, writes_next, writes_then, pictures_all, pictured_next}
use Rattle.memos.proofs.picture.Goals as goal

pub loop-s-preserved : goal.loop-s-preserved
loop-s-preserved c =
    let inv = c.loop-s.invariant in
    let room = length-set c.args.memo.now c.args.o c.short.result in
    let d = pictured_next c.loop-s.memo c.args.o c.loop-s.s c.from.result (omega (arith, inv.0.long, room)) (omega arith) inv.0 inv.1 (omega (arith, c.from.ensures)) in
    d

pub returns : goal.returns
returns c =
    let inv = c.loop-s.invariant in
    (writes_then (writes_next writes_none c.args.o c.short.result (omega arith) (omega arith)) inv.0, pictures_all (omega arith) inv.1)
