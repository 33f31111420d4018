-- Each turn takes the next byte; one that was seen fits already.
use Prim.Native.Nat.{◌<◌}
use native.Mathlib.Omega.{arith}
use mathlib.Core.Path.{refl, ap, ◌∙◌}
use lib.ListN.{length, get_or}
use lib.Seq.{take_all}
use Rattle.sums.specs.Parts.{last_of}
use Rattle.tallies.proofs.Reading.{last_more, word_none, word_again, word_more}
use Rattle.tallies.proofs.fits_word.Goals.{then-seen-c-eq0+else-not-fits_where, else-seen-c-eq0}
use Rattle.tallies.proofs.fits_word.Goals as goal

pub loop-c-init : goal.loop-c-init
unfolding last_of
loop-c-init c = (refl, word_none)

pub loop-c-preserved : goal.loop-c-preserved
loop-c-preserved c =
    let y = c.loop-c.invariant in
    let w = c.args.word.now in
    let below : get_or w c.loop-c.c-index 0 < length c.loop-c.seen = omega (arith, c.type_inv.word c.loop-c.c-index, y.1.long, c.requires.0) in
    elim c.if-seen-c-eq0.branch [
      | then-seen-c-eq0+else-not-fits_where x ↦ (
        last_more w c.loop-c.c-index (omega arith) _,
        rw x.seen-is (word_more w c.loop-c.c-index y.1 (omega arith) (λ b h. h) (x.fits_where.ensures x.if-not-fits_where.false) below),
      )
      | else-seen-c-eq0 x ↦ (last_more w c.loop-c.c-index (omega arith) _, rw x.seen-is (word_again w c.loop-c.c-index y.1 (omega arith) x.if-seen-c-eq0.false))
    ]

pub returns : goal.returns
returns c =
    let y = c.loop-c.invariant in
    let whole = take_all c.loop-c.c-index c.args.word.now (omega arith) in
    (y.0 ∙ ap (λ l. last_of l c.args.before) whole, rw whole at y.1)
