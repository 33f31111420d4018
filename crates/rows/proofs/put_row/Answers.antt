-- `put_row` meets its contract. The invariant: the first s signals' characters stand over the front.
use Prim.Native.Nat.{◌<◌}
use native.Mathlib.Omega.{arith}
use mathlib.Core.Path.{◌≡◌, sym, ◌∙◌}
use lib.ListN.{length, length-set}
use Rattle.meaning.specs.Services.{digit_of, row_width}
use Rattle.pins.specs.Shown.{table_of}
use Rattle.rows.proofs.Showing.{showed_none, showed_more, showed_all, showed_length, showed_row, shown_none, shown_char, digit_some, digit_none}
use Rattle.rows.proofs.put_row.Goals.{then-b-eq0, else-b-eq0, then-table-lt-TABLES, else-table-lt-TABLES}
use Rattle.rows.proofs.put_row.Goals as goal

pub loop-s-init : goal.loop-s-init
loop-s-init c = showed_none

pub bounds-part-s : goal.bounds-part-s
unfolding row_width
bounds-part-s c = omega (arith, showed_length c.loop-s.invariant)

pub loop-s-preserved : goal.loop-s-preserved
loop-s-preserved c =
    let x = c.loop-s.invariant in
    let inside : c.loop-s.s < length c.args.values.now = omega arith in
    showed_more x inside c.if-b-eq0.part
    (elim c.if-b-eq0.branch [
      | then-b-eq0 w ↦ w.part-is ∙ sym (shown_none _ _ w.if-b-eq0.true)
      | else-b-eq0 w ↦ w.part-is ∙ sym (shown_char _ _ w.if-b-eq0.false)
    ])

pub bounds-part-signals : goal.bounds-part-signals
unfolding row_width
bounds-part-signals c = omega (arith, showed_length c.loop-s.invariant)

pub bounds-part-signals-2 : goal.bounds-part-signals-2
unfolding row_width
bounds-part-signals-2 c = simp length-set (omega (arith, showed_length c.loop-s.invariant))

pub returns : goal.returns
returns c =
    let n = c.args.signals in
    let x = showed_all c.loop-s.invariant n (omega arith) in
    let digit : c.if-table-lt-TABLES.digit ≡ digit_of (table_of c.args.table) =
    elim c.if-table-lt-TABLES.branch [
      | then-table-lt-TABLES w ↦ w.digit-is ∙ sym (digit_some _ w.if-table-lt-TABLES.true)
      | else-table-lt-TABLES w ↦ w.digit-is ∙ sym (digit_none _ w.if-table-lt-TABLES.false)
    ] in
    (λ k z. showed_row x (omega arith) c.if-table-lt-TABLES.digit z digit c.requires.2, simp length-set (showed_length x))
