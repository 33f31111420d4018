-- `put_fails` is safe and ends: a page has room for a line before each is put.
use mathlib.Core.Path.{◌≡◌}
use lib.ListN.{length}
use Rattle.reels.proofs.failed.put_fails.Given as goal

abbrev pub invariant-loop-i : goal.invariant-loop-i
invariant-loop-i g l = length l.page ≡ 1048576
