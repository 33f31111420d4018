use Prim.Native.Nat.{◌≤◌}
use mathlib.Core.Path.{◌≡◌}
use lib.ListN.{drop}
use Rattle.meaning.specs.Names.{value}
use Rattle.words.specs.Values.{most, capped}
use Rattle.words.proofs.number.Given as goal

abbrev pub invariant-loop-b : goal.invariant-loop-b
invariant-loop-b l = (l.n ≤ most) × (capped (value 0 l.w) ≡ capped (value l.n (drop l.b-index l.w)))
