-- `check` is safe and ends: no more files are counted than there are words.
use Prim.Native.Nat.{◌+◌, ◌≤◌}
use Rattle.commands.proofs.checked.check.Given as goal

abbrev pub invariant-loop-i : goal.invariant-loop-i
invariant-loop-i g l = l.tally.good + l.tally.hurt + l.tally.unread ≤ l.i
