-- Zeros, then the tables' flags, then no table.
use native.Mathlib.Omega.{arith}
use Rattle.std.proofs.lemmas.List.{places}
use Rattle.tallies.proofs.Rows.{cleared}
use Rattle.tallies.proofs.clear.Goals as goal

pub returns : goal.returns
returns c = cleared c.fill-2.new.self (omega arith) (grind (arith, places)) c.requires (c.fill.ensures.after (λ y e. e)) (grind (arith, places, c.fill-2.ensures.len))
