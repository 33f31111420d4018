use Prim.Native.Nat.{◌<◌}
use mathlib.Core.Path.{◌≡◌}
use lib.ListN.{drop}
use Rattle.labels.specs.Table.{hashes, hash_from, hashed}
use Rattle.labels.proofs.hash_of.Given as goal

abbrev pub invariant-loop-b : goal.invariant-loop-b
invariant-loop-b l = (hashed l.w ≡ hash_from l.h (drop l.b-index l.w)) × (l.h < hashes)
