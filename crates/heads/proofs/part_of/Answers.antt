-- Macros stand in front, procedures behind them.
use mathlib.Core.Path.{sym, ap}
use mathlib.Core.Bool.{Bool}
use Rattle.heads.specs.Heads.{part_of}
use Rattle.heads.proofs.part_of.Goals as goal

pub returns-then-macros : goal.returns-then-macros
returns-then-macros c = ap (λ (m : Bool). part_of c.args.known m) (sym c.if-macros.true)

pub returns : goal.returns
returns c = ap (λ (m : Bool). part_of c.args.known m) (sym c.if-macros.false)
