use Prim.Native.Nat.{◌+◌}
use mathlib.Core.Path.{◌≡◌}
use Rattle.words.specs.Cursor.{span}
use Rattle.feeds.specs.Feeds.{front}
use Rattle.feeds.proofs.marked.Given as goal

abbrev pub invariant-loop-i : goal.invariant-loop-i
invariant-loop-i l = (l.at + front l.marks (span l.text l.at l.end) ≡ l.i + front l.marks (span l.text l.i l.end))
