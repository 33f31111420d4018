-- One flag is set.
use native.Mathlib.Omega.{arith}
use Rattle.tallies.proofs.Stored.{flag_set}
use Rattle.tallies.proofs.Grown.{more_marked}
use Rattle.tallies.proofs.spoil.Goals as goal

pub returns : goal.returns
returns c = (more_marked c.store.ensures (λ q l u e. omega arith) (omega arith), flag_set c.store.ensures (λ e. omega arith))
