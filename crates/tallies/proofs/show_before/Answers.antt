-- Each turn takes the next table.
use native.Mathlib.Omega.{arith}
use mathlib.Core.Path.{sym, ◌∙◌}
use Rattle.tallies.proofs.Stored.{flag_set}
use Rattle.tallies.proofs.Grown.{more_marked, more_then}
use Rattle.tallies.proofs.Narrowed.{narrowed_passed, narrowed_failed, narrowed_all}
use Rattle.tallies.proofs.show_before.Goals.{then-not-has, else-not-has}
use Rattle.tallies.proofs.show_before.Goals as goal

pub loop-k-preserved : goal.loop-k-preserved
loop-k-preserved c =
    let x = c.loop-k.invariant in
    elim c.if-not-has.branch [
      | then-not-has w ↦ rw w.sums-is (narrowed_failed x (omega arith) w.store-then-not-has.ensures)
      | else-not-has w ↦ rw w.sums-is (narrowed_passed x (λ tabs m. sym (c.has.ensures tabs m) ∙ w.if-not-has.false))
    ]

pub returns : goal.returns
returns c =
    let x = c.loop-k.invariant in
    let need = more_marked c.store.ensures (λ q l u e. omega arith) (omega arith) in (
      more_then need x.more,
      λ tabs m. record { needs = (x.more.kept 0).needs (flag_set c.store.ensures (λ e. omega arith)); fine = λ k e. narrowed_all x (omega arith) k e tabs m },
    )
