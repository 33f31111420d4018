-- `row` meets its contract: a row holds at most as many signals as there may be, and past the last name there is none.
use Prim.Native.Nat.{◌+◌, ◌*◌, min}
use Rattle.std.proofs.Common.{rules, ◌≡◌}
use Rattle.meaning.specs.Bounds.{signals_most}
use native.Mathlib.Omega.{arith}
use lib.ListN.{get_or, drop, get_or-eq_default}
use Rattle.signals.specs.Names.{row_length, list_at}
use Rattle.timing.proofs.Marking.{row_part, row_none}
use Rattle.timing.proofs.row.Goals as goal

pub returns-then-i-lt-NAMES : goal.returns-then-i-lt-NAMES
unfolding list_at
returns-then-i-lt-NAMES c = let e : c.min.result ≡ min (get_or c.args.lists.now (c.args.i * row_length) 0) signals_most = search rules in rw e (row_part (get_or c.args.lists.now (c.args.i * row_length) 0) (c.args.i * row_length + 1) c.args.lists.now)

pub returns : goal.returns
unfolding list_at
returns c = row_none (get_or c.args.lists.now (c.args.i * row_length) 0) (drop (c.args.i * row_length + 1) c.args.lists.now) (get_or-eq_default c.args.lists.now 0 (omega arith))
