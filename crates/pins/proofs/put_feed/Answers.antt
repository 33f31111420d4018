-- Four numbers, one after the other.
use native.Mathlib.Omega.{arith}
use lib.ListN.{length-set}
use Rattle.pins.proofs.Written.{fills}
use Rattle.pins.proofs.put_feed.Goals as goal

pub bounds-feeds-i-2 : goal.bounds-feeds-i-2
bounds-feeds-i-2 c = simp length-set (omega arith)

pub bounds-feeds-i-3 : goal.bounds-feeds-i-3
bounds-feeds-i-3 c = simp length-set (omega arith)

pub bounds-feeds-i-4 : goal.bounds-feeds-i-4
bounds-feeds-i-4 c = simp length-set (omega arith)

pub returns : goal.returns
returns c = fills c.args.feeds.now c.args.level c.args.s c.args.f (omega arith)
