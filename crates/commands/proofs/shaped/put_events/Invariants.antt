-- `put_events` is safe and ends: a page has room for a line for each event.
use Prim.Native.Nat.{◌+◌, ◌*◌, ◌≤◌}
use mathlib.Core.Path.{◌≡◌}
use lib.ListN.{length}
use Rattle.commands.proofs.shaped.put_events.Given as goal

abbrev pub invariant-loop-i : goal.invariant-loop-i
invariant-loop-i l = (length l.page ≡ 262144) × (l.end ≤ 128 * (l.i + 1))
