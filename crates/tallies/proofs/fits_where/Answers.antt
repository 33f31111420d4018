-- Under each table, where any is marked, and then under the one in force.
use native.Mathlib.Omega.{arith}
use mathlib.Core.Path.{sym}
use mathlib.Core.Bool.{true≢false}
use borrow.Author.Count.{below_more}
use Rattle.tallies.proofs.Stored.{flag_is, none_marked}
use Rattle.tallies.proofs.Fitting.{fits_all}
use Rattle.tallies.proofs.fits_where.Goals.{then-any_marked+else-loop-t-test, else-any_marked}
use Rattle.tallies.proofs.fits_where.Goals as goal

pub returns-then-not-fits_slot : goal.returns-then-not-fits_slot
returns-then-not-fits_slot c = λ e. absurd (true≢false (sym e))

pub loop-t-preserved : goal.loop-t-preserved
loop-t-preserved c = λ tabs m. below_more _ _ (c.loop-t.invariant tabs m) (c.fits_slot.ensures c.if-not-fits_slot.false tabs m)

pub returns : goal.returns
returns c =
    λ e tabs m. elim c.if-any_marked.branch [
      | then-any_marked+else-loop-t-test w ↦ fits_all (λ k h. w.loop-t.invariant tabs m k (omega arith)) (c.fits_slot-2.ensures e tabs m)
      | else-any_marked w ↦
          fits_all (λ k h f. absurd (flag_is f (none_marked c.args.row.now c.args.place (c.any_marked.ensures w.if-any_marked.false) (omega arith) h (omega arith)))) (c.fits_slot-2.ensures e tabs m)
    ]
