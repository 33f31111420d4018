-- Each turn takes the next signal, or passes eight that are given nothing.
use Prim.Native.Nat.{◌<◌}
use native.Mathlib.Omega.{arith}
use lib.ListN.{length}
use Rattle.meaning.specs.Bounds.{signals_most}
use Rattle.pins.proofs.Putting.{put_none, put_idle, put_fed, put_given, put_kept, put_others, put_shows}
use Rattle.pins.proofs.put.Goals as goal
use Rattle.pins.proofs.put.Goals.{then-b-eq-MARK, else-b-eq-MARK+then-b-ne0, else-b-eq-MARK+else-b-ne0}

pub loop-s-init : goal.loop-s-init
loop-s-init c = (omega arith, put_none)

pub loop-s-smaller-then-idle : goal.loop-s-smaller-then-idle
loop-s-smaller-then-idle c = omega (arith, c.min-s.ensures)

pub loop-s-preserved-then-idle : goal.loop-s-preserved-then-idle
loop-s-preserved-then-idle c = (
  omega (arith, c.min-s.ensures),
  put_idle c.loop-s.invariant.1 (c.idle.ensures c.if-idle.true) (omega arith) (omega arith) c.min-s.ensures,
)

pub feed_at-requires : goal.feed_at-requires
feed_at-requires c = omega (arith, c.loop-s.invariant.1.leaves.long)

pub bounds-values-s : goal.bounds-values-s
bounds-values-s c = omega (arith, c.loop-s.invariant.1.shows.long)

pub put_feed-requires : goal.put_feed-requires
put_feed-requires c = omega (arith, c.loop-s.invariant.1.leaves.long)

pub bounds-values-s-then-b-ne0 : goal.bounds-values-s-then-b-ne0
bounds-values-s-then-b-ne0 c = omega (arith, c.loop-s.invariant.1.shows.long)

pub loop-s-preserved : goal.loop-s-preserved
loop-s-preserved c =
    let x = c.loop-s.invariant.1 in
    let below : c.loop-s.s < signals_most = omega arith in
    let inside : c.loop-s.s < length c.loop-s.values = omega (arith, x.shows.long) in (
      omega arith,
      elim c.if-b-eq-MARK.branch [
        | then-b-eq-MARK w ↦
            rw (w.values-is, w.feeds-is) (put_fed x below inside w.if-b-eq-MARK.true w.feed_at.ensures w.next-x.ensures w.put_feed.ensures)
        | else-b-eq-MARK+then-b-ne0 w ↦
            rw (w.values-is, w.feeds-is) (put_given x below inside w.if-b-eq-MARK.false w.if-b-ne0.true)
        | else-b-eq-MARK+else-b-ne0 w ↦
            rw (w.values-is, w.feeds-is) (put_kept x below w.if-b-eq-MARK.false w.if-b-ne0.false)
      ],
    )

pub shape_of-values : goal.shape_of-values
shape_of-values c = c.loop-s.invariant.1.shows.long

pub shape_of-feeds : goal.shape_of-feeds
shape_of-feeds c = c.loop-s.invariant.1.leaves.long

pub returns : goal.returns
returns c =
    let x = c.loop-s.invariant.1 in
    let room = c.requires.0 in
    (put_others room (omega arith) x, λ a s table g p h. put_shows room (omega arith) x g p h)
