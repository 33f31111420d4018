-- `rows` meets its contract. The invariant: the rows from number r on are left.
use Prim.Native.Nat.{◌+◌, ◌*◌, ◌-◌}
use native.Mathlib.Omega.{arith}
use mathlib.Core.Path.{◌≡◌}
use lib.ListN.{length}
use Rattle.meaning.proofs.Windows.{row_room}
use Rattle.stretches.proofs.Laws.{part_is, part_long, row_next, rows_end, rows_long}
use Rattle.stretches.proofs.Taking.{amid_all, amid_next, amid_none}
use Rattle.stretches.proofs.rows.Goals as goal

pub loop-r-init : goal.loop-r-init
loop-r-init c =
    let e : c.args.count - 0 ≡ c.args.count = omega arith in
    rw e (amid_all _ _ _ _ _ _ _)

pub overflow_add-at : goal.overflow_add-at
overflow_add-at c = omega (arith, c.requires.0.long)

pub overflow_mul-at : goal.overflow_mul-at
overflow_mul-at c = omega (arith, row_room c.loop-r.r c.args.count (c.args.names.signals + 2) (length c.args.buffer.now) c.loop-r-test.true c.requires.1)

pub overflow_add-end : goal.overflow_add-end
overflow_add-end c = omega (arith, c.requires.0.long)

pub overflow_add-end-in-loop-r : goal.overflow_add-end-in-loop-r
overflow_add-end-in-loop-r c = omega (arith, row_room c.loop-r.r c.args.count (c.args.names.signals + 2) (length c.args.buffer.now) c.loop-r-test.true c.requires.1)

pub slice_bounds-turn-count : goal.slice_bounds-turn-count
slice_bounds-turn-count c = omega (arith, row_room c.loop-r.r c.args.count (c.args.names.signals + 2) (length c.args.buffer.now) c.loop-r-test.true c.requires.1)

pub slice_bounds-turn-start : goal.slice_bounds-turn-start
slice_bounds-turn-start c = omega (arith, row_room c.loop-r.r c.args.count (c.args.names.signals + 2) (length c.args.buffer.now) c.loop-r-test.true c.requires.1)

pub slice_bounds-turn-end : goal.slice_bounds-turn-end
slice_bounds-turn-end c = omega (arith, row_room c.loop-r.r c.args.count (c.args.names.signals + 2) (length c.args.buffer.now) c.loop-r-test.true c.requires.1)

pub turn-g-requires : goal.turn-g-requires
turn-g-requires c =
    let room = row_room c.loop-r.r c.args.count (c.args.names.signals + 2) (length c.args.buffer.now) c.loop-r-test.true c.requires.1 in
    (record { long = omega (arith, c.loop-r.invariant.hand_kept, c.requires.0.long); few_times = omega (arith, c.loop-r.invariant.few_times, c.requires.0.few_times, c.loop-r-test.true); few_patterns = omega (arith, c.loop-r.invariant.few_patterns, c.requires.0.few_patterns, c.loop-r-test.true) }, part_long (c.loop-r.r * (c.args.names.signals + 2)) (c.args.names.signals + 2) c.args.buffer.now room)

pub loop-r-preserved : goal.loop-r-preserved
loop-r-preserved c =
    amid_next _ _ c.loop-r.invariant (row_next c.args.names.signals c.args.buffer.now c.loop-r.r c.args.count c.loop-r-test.true)
    (rw (part_is (c.loop-r.r * (c.args.names.signals + 2)) (c.args.names.signals + 2) c.args.buffer.now) at c.turn-g.ensures)

pub returns : goal.returns
returns c = amid_none _ _ c.loop-r.invariant (rows_end c.args.names.signals c.args.buffer.now c.loop-r.r c.args.count (omega arith)) (omega (arith, rows_long c.args.names.signals c.args.buffer.now 0 c.args.count))
