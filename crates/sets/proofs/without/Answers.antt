-- What stands in v and what is left of g, less x, make up the answer at each turn.
use mathlib.Core.Path.{sym, ap₂, ◌∙◌}
use native.Mathlib.Omega.{arith}
use lib.ListN.{length-set}
use Rattle.meaning.specs.Lists.{without}
use Rattle.sets.proofs.Sets.{dropped, kept, all_kept}
use Rattle.sets.proofs.without.Goals as goal
use Rattle.sets.proofs.without.Goals.{then-not-among, else-not-among}

pub loop-s-preserved : goal.loop-s-preserved
loop-s-preserved c =
    let loop = c.loop-s in
    let g = c.numbers-s-items.result.now in
    let x = c.numbers-taken.result.now in
    let told = sym c.among.ensures in
    elim c.if-not-among.branch [
      | then-not-among w ↦ rw (w.v-is, w.k-is) (
        rw length-set loop.invariant.0,
        omega arith,
        kept loop.v loop.k g loop.s-index x (omega arith) (told ∙ w.if-not-among.true) (omega arith) ∙ loop.invariant.2,
      )
      | else-not-among w ↦ rw (w.v-is, w.k-is) (
        loop.invariant.0,
        omega arith,
        dropped loop.v loop.k g loop.s-index x (omega arith) (told ∙ w.if-not-among.false) ∙ loop.invariant.2,
      )
    ]

pub returns : goal.returns
returns c =
    let loop = c.loop-s in
    let both = ap₂ (λ a b. without a b) c.numbers-s-items.ensures.numbers c.numbers-taken.ensures.numbers in
    all_kept loop.v loop.k c.numbers-s-items.result.now loop.s-index c.numbers-taken.result.now (omega arith) ∙ loop.invariant.2 ∙ both
