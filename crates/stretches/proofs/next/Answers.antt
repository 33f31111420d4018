-- `next` meets its contract: the row in hand is written; a Pattern begins, or the table in force is the row's.
use native.Mathlib.Omega.{arith}
use mathlib.Core.Path.{refl, sym, ap, ◌∙◌}
use mathlib.Core.Option.{some}
use lib.Seq.{length-take-le}
use Rattle.stretches.proofs.Taking.{follows_lost, follows_other}
use Rattle.stretches.proofs.next.Goals as goal

pub slice_bounds-loses-end : goal.slice_bounds-loses-end
slice_bounds-loses-end c = sym (length-take-le _ c.args.hand.now (omega arith))

pub slice_bounds-loses-end-2 : goal.slice_bounds-loses-end-2
slice_bounds-loses-end-2 c = sym (length-take-le _ c.args.row.now (omega arith))

pub returns-then-loses : goal.returns-then-loses
returns-then-loses c = follows_lost _ _ c.requires.2 c.requires.3 c.flush-p.ensures (sym c.loses.ensures ∙ c.if-loses.true) c.part-q.ensures refl refl refl

pub returns : goal.returns
returns c = follows_other _ _ c.requires.2 c.requires.3 c.flush-p.ensures (sym c.loses.ensures ∙ c.if-loses.false) refl refl (ap some c.table_of-table.ensures) refl
