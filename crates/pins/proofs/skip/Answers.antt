-- Each turn takes the next signal.
use native.Mathlib.Omega.{arith}
use Rattle.pins.proofs.Skipping.{skipped_mark, skipped_other, skipped_others, skipped_shows}
use Rattle.pins.proofs.skip.Goals as goal
use Rattle.pins.proofs.skip.Goals.{then-given-s-eq-MARK, else-given-s-eq-MARK}

pub loop-s-preserved : goal.loop-s-preserved
loop-s-preserved c =
    let x = c.loop-s.invariant in
    elim c.if-given-s-eq-MARK.branch [
      | then-given-s-eq-MARK w ↦
          rw w.feeds-is (skipped_mark x (omega arith) w.if-given-s-eq-MARK.true w.feed_at.ensures w.skip-f.ensures w.put_feed.ensures)
      | else-given-s-eq-MARK w ↦ rw w.feeds-is (skipped_other x (omega arith) w.if-given-s-eq-MARK.false)
    ]

pub returns : goal.returns
returns c =
    let x = c.loop-s.invariant in
    (skipped_others x, record { shows = λ a s table g p h. skipped_shows x (omega arith) g p h })
