-- Three numbers are stored.
use native.Mathlib.Omega.{arith}
use Rattle.memos.proofs.Rows.{point_written}
use Rattle.memos.proofs.point.Goals as goal

pub returns : goal.returns
returns c =
    let b = c.requires.1 in
    point_written _ _ _ _ _ _ c.requires.0 b.on (omega (arith, c.from.ensures)) (c.short.ensures b.at) (c.short-2.ensures b.end)
