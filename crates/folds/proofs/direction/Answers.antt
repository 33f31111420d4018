-- `direction` meets its contract: the token behind the name's end.
use Prim.Native.Nat.{◌*◌, ◌+◌}
use native.Mathlib.Omega.{arith}
use lib.ListN.{get_or}
use Rattle.folds.proofs.Laws.{name_long, direction_is}
use Rattle.folds.proofs.direction.Goals as goal

pub overflow_add-number_at : goal.overflow_add-number_at
overflow_add-number_at c = omega (arith, c.number_at.ensures, name_long c.args.text.now (get_or c.args.places.now (c.args.i * 2) 0) (get_or c.args.places.now (c.args.i * 2 + 1) 0) c.name_bytes-name.ensures)

pub returns : goal.returns
returns c = direction_is c.args.text.now c.args.places.now c.args.i c.name_bytes-name.ensures c.number_at.ensures c.cursor_at-c.ensures c.bytes_of.ensures
