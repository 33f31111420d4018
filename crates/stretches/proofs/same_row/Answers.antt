-- `same_row` meets its contract: the tables' numbers, and the pins.
use native.Mathlib.Omega.{arith}
use mathlib.Core.Path.{sym}
use lib.Seq.{length-take-le}
use Rattle.stretches.proofs.Laws.{same_by}
use Rattle.stretches.proofs.same_row.Goals as goal

pub slice_bounds-equal-end : goal.slice_bounds-equal-end
slice_bounds-equal-end c = sym (length-take-le _ c.args.old.now (omega arith))

pub slice_bounds-equal-end-2 : goal.slice_bounds-equal-end-2
slice_bounds-equal-end-2 c = sym (length-take-le _ c.args.new.now (omega arith))

pub returns : goal.returns
returns c = same_by c.args.signals c.args.old.now c.args.new.now c.table_of.ensures c.table_of-2.ensures c.equal-same.ensures
