-- `turns` meets its contract: a Shift in which no signal has a `#` plays no time.
use native.Mathlib.Omega.{arith}
use Rattle.meaning.specs.Bounds.{signals_most}
use Rattle.arguments.proofs.Counted.{not_in_shift, turns_none}
use Rattle.arguments.proofs.turns.Goals as goal

pub returns-then-unshifted : goal.returns-then-unshifted
returns-then-unshifted c =
    let marks = c.unshifted.ensures c.if-unshifted.true in
    λ text b xs uses sup. turns_none uses sup signals_most (omega arith) (λ k l. not_in_shift uses k l (marks k l))
