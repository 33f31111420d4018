-- `room` meets its contract.
use Prim.Native.Nat.{ℕ}
use mathlib.Core.Path.{sym}
use lib.ListN.{length-replicate}
use Rattle.commands.proofs.saved.room.Goals as goal

pub returns : goal.returns
returns c = sym (length-replicate {A = ℕ} 131072 0)
