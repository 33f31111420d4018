-- `used_twice` meets its contract: an empty table is lent, and no chain has a label yet.
use native.Mathlib.Omega.{arith}
use Prim.Native.Nat.{ℕ, ◌*◌}
use mathlib.Core.Path.{ap, ◌∙◌}
use lib.ListN.{length-replicate, get_or-replicate}
use Rattle.words.specs.Values.{value_of}
use Rattle.labels.specs.Table.{labels_most, hashes}
use Rattle.labels.proofs.Scanning.{empty_held, first_twice}
use Rattle.labels.proofs.used_twice.Goals as goal

pub returns-then-text-gt-SHORT : goal.returns-then-text-gt-SHORT
returns-then-text-gt-SHORT c = λ h. absurd (omega arith)

pub gather-requires : goal.gather-requires
gather-requires c = (empty_held _ _ _ _ (length-replicate {A = ℕ} (2 * labels_most) 0) (length-replicate {A = ℕ} hashes 0) (length-replicate {A = ℕ} labels_most 0) (λ h k. get_or-replicate hashes h 0 0 k), omega arith)

pub returns : goal.returns
returns c = λ h. ap value_of c.err.ensures.value ∙ first_twice _ _ _ _ _ _ c.gather.result c.gather.ensures
