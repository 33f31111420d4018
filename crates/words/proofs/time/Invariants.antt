use Prim.Native.Nat.{◌≤◌, ◌<◌}
use mathlib.Core.Path.{◌≡◌}
use mathlib.Core.Bool.{true}
use lib.ListN.{get_or, drop}
use Rattle.tokens.specs.Bytes.{digit}
use Rattle.meaning.specs.Timing.{unit}
use Rattle.words.specs.Values.{most, capped}
use Rattle.words.proofs.time.Given as goal

abbrev pub invariant-loop-i : goal.invariant-loop-i
invariant-loop-i l = (l.n ≤ most) × (capped (unit 0 l.w) ≡ capped (unit l.n (drop l.i l.w))) × (0 < l.i → digit (get_or l.w 0 0) ≡ true)
