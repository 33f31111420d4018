-- There is no table, or one.
use native.Mathlib.Omega.{arith}
use Rattle.tallies.proofs.Stored.{flag_set}
use Rattle.tallies.proofs.Grown.{more_marked, more_none}
use Rattle.tallies.proofs.Asking.{needed_one}
use Rattle.tallies.proofs.need_table.Goals as goal

pub returns-then-t-eq-TABLES : goal.returns-then-t-eq-TABLES
returns-then-t-eq-TABLES c =
    let t = c.in_force-t.ensures in (
      more_marked c.store.ensures (λ q l u e. omega arith) (omega arith),
      record { slot = t.0; is = t.1; needs = λ e. flag_set c.store.ensures (λ z. omega arith) },
    )

pub returns-else-t-eq-TABLES : goal.returns-else-t-eq-TABLES
returns-else-t-eq-TABLES c = let t = c.in_force-t.ensures in (more_none, needed_one (omega arith) t.1)
