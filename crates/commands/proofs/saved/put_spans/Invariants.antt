-- `put_spans` is safe and ends: a page that is written once it is half full has room for a line.
use Prim.Native.Nat.{◌≤◌}
use mathlib.Core.Path.{◌≡◌}
use lib.ListN.{length}
use Rattle.commands.proofs.saved.put_spans.Given as goal

abbrev pub invariant-loop-i : goal.invariant-loop-i
invariant-loop-i g l = (length l.page ≡ 262144) × (l.end ≤ 200000)
