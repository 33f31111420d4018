-- Each turn takes the next byte; one that was seen is shown already.
use Prim.Native.Nat.{◌<◌}
use native.Mathlib.Omega.{arith}
use mathlib.Core.Path.{refl, ap, ◌∙◌}
use lib.ListN.{length, get_or}
use lib.Seq.{take_all}
use Rattle.sums.specs.Parts.{last_of}
use Rattle.tallies.proofs.Grown.{more_none, more_then}
use Rattle.tallies.proofs.Reading.{last_more, word_none, word_again, word_more}
use Rattle.tallies.proofs.Feeding.{fed_kept, fed_later}
use Rattle.tallies.proofs.feed_word.Goals.{then-seen-c-eq0, else-seen-c-eq0}
use Rattle.tallies.proofs.feed_word.Goals as goal

pub loop-c-init : goal.loop-c-init
unfolding last_of
loop-c-init c = (refl, more_none, word_none)

pub loop-c-preserved : goal.loop-c-preserved
loop-c-preserved c =
    let p = c.requires in
    let y = c.loop-c.invariant in
    let w = c.args.w.now in
    let below : get_or w c.loop-c.c-index 0 < length c.loop-c.seen = omega (arith, c.type_inv.w c.loop-c.c-index, y.2.long, p.0) in
    elim c.if-seen-c-eq0.branch [
      | then-seen-c-eq0 x ↦ (
        last_more w c.loop-c.c-index (omega arith) _,
        rw x.sums-is (more_then y.1 x.show_where.ensures.0),
        rw (x.seen-is, x.sums-is) (word_more w c.loop-c.c-index y.2 (omega arith) (fed_kept x.show_where.ensures.0) (fed_later y.1 p.3 p.5 _ x.show_where.ensures.1) below),
      )
      | else-seen-c-eq0 x ↦ (
        last_more w c.loop-c.c-index (omega arith) _,
        rw x.sums-is y.1,
        rw (x.seen-is, x.sums-is) (word_again w c.loop-c.c-index y.2 (omega arith) x.if-seen-c-eq0.false),
      )
    ]

pub returns : goal.returns
returns c =
    let y = c.loop-c.invariant in
    let whole = take_all c.loop-c.c-index c.args.w.now (omega arith) in
    (y.0 ∙ ap (λ l. last_of l c.args.before) whole, y.1, rw whole at y.2)
