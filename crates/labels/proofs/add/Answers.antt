-- `add` meets its contract: the label is the latest of its chain.
use native.Mathlib.Omega.{arith}
use mathlib.Core.Path.{ap, ◌∙◌}
use lib.ListN.{length-set}
use Rattle.labels.specs.Table.{hashed}
use Rattle.labels.proofs.Chains.{added}
use Rattle.labels.proofs.add.Goals as goal

pub bounds-places-count-2 : goal.bounds-places-count-2
bounds-places-count-2 c = rw length-set (omega arith)

pub returns : goal.returns
returns c =
    let bytes_of = c.bytes_of in
    let hash-of = c.hash_of-h in
    let short = c.short in
    let short2 = c.short-2 in
    added _ c.requires.0 c.requires.1 short.ensures (omega (arith, short2.ensures, c.requires.2)) (hash-of.ensures.0 ∙ ap hashed bytes_of.ensures) hash-of.ensures.1 c.short-3.ensures
