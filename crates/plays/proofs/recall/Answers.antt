-- A row is taken only where it holds for these pins.
use Prim.Native.Nat.{◌+◌}
use native.Mathlib.Omega.{arith}
use mathlib.Core.Path.{◌≡◌}
use Rattle.memos.specs.Memo.{before_at}
use Rattle.plays.proofs.recall.Goals as goal

pub returns : goal.returns
returns c =
    let place : c.in_ok-at.at + before_at + 1 ≡ c.in_ok-at.at + 9 = omega arith in
    record { finds = c.in_ok-at.ensures; granted = rw place (c.pins_granted.ensures c.if-not-pins_granted.false) }
