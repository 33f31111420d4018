-- Place and table, modulo the number of rows.
use Prim.Native.Nat.{◌+◌, ◌*◌, ◌%◌, ◌-◌}
use native.Mathlib.Omega.{arith}
use native.Mathlib.Nat.{pos_of_ne-zero}
use mathlib.Core.Path.{refl}
use Rattle.memos.specs.Tracks.{tracks_length}
use Rattle.memos.proofs.Rows.{row_within}
use Rattle.memos.proofs.memo_row.Goals as goal

pub returns-then-rows-eq0 : goal.returns-then-rows-eq0
returns-then-rows-eq0 c =
    (0, refl, omega arith)

pub returns : goal.returns
returns c =
    (_, refl, omega (arith, row_within (c.args.long - tracks_length) (c.args.at % 65_536 * 9 + c.args.table % 9) (pos_of_ne-zero c.if-rows-eq0.false), c.requires))
