-- The table is compared, and then each pin is asked for, where anything is tracked.
use native.Mathlib.Omega.{arith}
use mathlib.Core.Path.{refl}
use Rattle.plays.proofs.Marks.{asked_on}
use Rattle.tokens.proofs.Bools.{true_false}
use Rattle.plays.proofs.begins_again.Goals as goal

pub returns-then-after-table : goal.returns-then-after-table
returns-then-after-table c = λ e. true_false e refl

pub overflow_mul-nest : goal.overflow_mul-nest
overflow_mul-nest c = omega (arith, c.requires.0)

pub pins_granted-requires : goal.pins_granted-requires
pins_granted-requires c =
    let t = c.tracks.ensures.0 (asked_on c.args.after c.args.table c.tracks.result c.if-after-table.false).1 in
    (omega (arith, t.1, c.requires.0, c.requires.2), c.requires.1, c.requires.2, c.requires.3)

pub returns : goal.returns
returns c =
    let i = asked_on c.args.after c.args.table c.tracks.result c.if-after-table.false in
    let t = c.tracks.ensures.0 i.1 in
    λ e. record { table_same = i.0; deep = t.0; room = t.1; granted = c.pins_granted.ensures e }
