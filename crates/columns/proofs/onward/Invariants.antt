use mathlib.Core.Path.{◌≡◌}
use lib.ListN.{drop}
use Rattle.columns.specs.Columns.{onward, capped}
use Rattle.columns.proofs.Laws.{Kept}
use Rattle.columns.proofs.onward.Given as goal

abbrev pub invariant-loop-b : goal.invariant-loop-b
invariant-loop-b l = (capped (onward l.initial.p l.bytes) ≡ capped (onward l.p (drop l.b-index l.bytes))) × Kept l.p
