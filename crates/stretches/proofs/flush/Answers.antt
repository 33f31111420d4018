-- `flush` meets its contract: nothing where the page is full; else the table, if it is another, and the row's statement.
use native.Mathlib.Omega.{arith}
use mathlib.Core.Path.{sym}
use lib.Seq.{length-take-le}
use Rattle.pens.proofs.Laws.{writes_both, writes_same}
use Rattle.stretches.proofs.Writing.{flush_same, flush_other}
use Rattle.stretches.proofs.flush.Goals as goal

pub slice_bounds-repeat-end : goal.slice_bounds-repeat-end
slice_bounds-repeat-end c = sym (length-take-le _ c.args.hand.now (omega arith))

pub slice_bounds-repeat-end-2 : goal.slice_bounds-repeat-end-2
slice_bounds-repeat-end-2 c = sym (length-take-le _ c.args.hand.now (omega arith))

pub returns-then-eq : goal.returns-then-eq
returns-then-eq c =
    let long = length-take-le c.args.names.signals c.args.hand.now (omega (arith, c.requires)) in
    writes_same (flush_same _ _ c.args.f.table c.args.f.times _ (rw c.table_of-table.ensures at (sym c.if-eq.ensures))) (rw long at c.repeat.ensures)

pub returns : goal.returns
returns c =
    let long = length-take-le c.args.names.signals c.args.hand.now (omega (arith, c.requires)) in
    writes_same (flush_other _ _ c.args.f.table c.args.f.times _ (rw c.table_of-table.ensures at (sym c.if-eq.ensures)))
    (writes_both (rw c.table_of-table.ensures at c.choose-p.ensures) (rw long at c.repeat-2.ensures))
