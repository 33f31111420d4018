-- `told` meets its contract: one law for each side of the cycle's start.
use native.Mathlib.Omega.{arith}
use mathlib.Core.Path.{◌∙◌}
use Rattle.charts.proofs.Telling.{told_before, told_behind}
use Rattle.charts.proofs.told.Goals as goal

pub returns-then-time-lt-START : goal.returns-then-time-lt-START
returns-then-time-lt-START c =
    let time = c.args.time in
    omega arith ∙ told_before time c.if-time-lt-START.true

pub returns : goal.returns
returns c = told_behind c.args.time c.if-time-lt-START.false
