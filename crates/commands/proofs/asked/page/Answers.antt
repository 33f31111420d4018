-- `page` meets its contract.
use Prim.Native.Nat.{ℕ}
use mathlib.Core.Path.{sym}
use lib.ListN.{length-replicate}
use Rattle.commands.proofs.asked.page.Goals as goal

pub returns : goal.returns
returns c = sym (length-replicate {A = ℕ} 262144 0)
