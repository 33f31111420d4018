-- `put` meets its contract: two stores side by side.
use Prim.Native.Nat.{◌*◌}
use native.Mathlib.Omega.{arith}
use Rattle.spans.proofs.Filling.{put_two}
use lib.ListN.{length-set}
use Rattle.spans.proofs.put.Goals as goal

pub bounds-row-n-2 : goal.bounds-row-n-2
bounds-row-n-2 c = omega (arith, length-set c.args.row.now (c.args.n * 2) c.args.drive)

pub returns : goal.returns
returns c = put_two c.args.row.now c.args.n c.args.drive c.args.compare c.requires.0 c.requires.1
