-- `again` meets its contract: as many rows as are left to show, and no more than the turns have.
use native.Mathlib.Omega.{arith}
use lib.ListN.{length}
use Rattle.rows.proofs.Turning.{rows_below, rows_fit, more_below, more_fit, some_bytes, turn_behind, turns_again}
use Rattle.rows.proofs.again.Goals as goal

pub overflow_add-width : goal.overflow_add-width
overflow_add-width c = omega (arith, rows_below c.args.signals c.args.w (length c.args.buffer.now) c.requires.5 1 (omega arith))

pub overflow_mul-w : goal.overflow_mul-w
overflow_mul-w c = rows_fit _ c.args.w _ c.requires.5 _ (omega arith) (omega arith)

pub overflow_mul-cycles : goal.overflow_mul-cycles
overflow_mul-cycles c = rows_fit _ c.args.w _ c.requires.5 _ (omega arith) (omega arith)

pub overflow_mul-count : goal.overflow_mul-count
overflow_mul-count c = rows_fit _ c.args.w _ c.requires.5 _ (omega (arith, c.min-count.ensures)) (omega arith)

pub extend-requires : goal.extend-requires
extend-requires c =
    (some_bytes _ _ (omega arith), turn_behind _ _ _ (omega arith), more_below _ c.args.w _ c.requires.5 _ (omega (arith, c.min-count.ensures)))

pub overflow_add-result : goal.overflow_add-result
overflow_add-result c = more_fit _ c.args.w _ c.requires.5 _ (omega (arith, c.min-count.ensures)) (omega arith)

pub returns : goal.returns
returns c = turns_again c.args.turns c.args.w (omega (arith, c.min-count.ensures)) c.requires.2 c.requires.5 c.extend.ensures
