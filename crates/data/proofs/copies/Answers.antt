-- Nothing to say; once, where the others have no room; or once and the run behind it.
use native.Mathlib.Omega.{arith}
use lib.ListN.{length}
use Rattle.data.proofs.Over.{adds_count}
use Rattle.data.proofs.Again.{adds_nothing, something, times_all, adds_once, adds_run}
use Rattle.data.proofs.copies.Goals as goal

pub returns-then-k-len : goal.returns-then-k-len
returns-then-k-len c = adds_nothing c.args.k c.args.w.now c.if-k-len.true

pub returns-then-room-once : goal.returns-then-room-once
returns-then-room-once c =
    let some = something c.args.k (length c.args.w.now) c.if-k-len.false in
    let place = c.counted-once.ensures in
    let once = adds_count c.copy.ensures place in
    adds_once c.args.k c.args.w.now some.0 once (omega (arith, c.well_formed.0.1)) place c.counted_times-all.ensures c.if-room-once.true

pub overflow_sub-all : goal.overflow_sub-all
overflow_sub-all c =
    let some = something c.args.k (length c.args.w.now) c.if-k-len.false in
    omega (arith, times_all c.args.k (length c.args.w.now) some.0)

pub extend-requires : goal.extend-requires
extend-requires c =
    let some = something c.args.k (length c.args.w.now) c.if-k-len.false in
    (omega (arith, some.1), omega (arith, c.well_formed.0.1), omega arith)

pub returns : goal.returns
returns c =
    let some = something c.args.k (length c.args.w.now) c.if-k-len.false in
    let place = c.counted-once.ensures in
    let once = adds_count c.copy.ensures place in
    let room = c.if-room-once.false in
    adds_run c.args.k c.args.w.now some.0 once (omega (arith, c.well_formed.0.1)) place c.counted_times-all.ensures
    (omega arith) some.1 c.fitting-count.ensures c.extend.ensures
