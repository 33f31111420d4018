-- `holder` meets its contract. The invariant: none of the patterns up to number k holds the cycle, and the next one begins no later.
use native.Mathlib.Omega.{arith}
use Rattle.index.proofs.Left.{next_named, next_fits}
use Rattle.index.proofs.Writing.{unheld_all, held_none, held_here, held_later}
use Rattle.index.proofs.holder.Goals as goal

pub loop-number-init : goal.loop-number-init
loop-number-init c = λ ps run h. unheld_all h c.args.n

pub listed_at-s-requires : goal.listed_at-s-requires
listed_at-s-requires c =
    let h = c.requires.lists in
    record { decls = _; decl = _; named = next_named h c.loop-number-test.true (c.loop-number.invariant _ _ h).left }

pub overflow_add-reached : goal.overflow_add-reached
overflow_add-reached c =
    let h = c.requires.lists in
    record { fits = omega (arith, next_fits h c.loop-number-test.true (c.loop-number.invariant _ _ h).left c.listed_at-s.ensures) }

pub returns-then-n-reached : goal.returns-then-n-reached
returns-then-n-reached c = λ ps run h. held_here h (c.loop-number.invariant ps run h) c.loop-number-test.true c.listed_at-s.ensures c.if-n-reached.true

pub overflow_add-reached-in-loop-number : goal.overflow_add-reached-in-loop-number
overflow_add-reached-in-loop-number c =
    let h = c.requires.lists in
    record { fits = omega (arith, next_fits h c.loop-number-test.true (c.loop-number.invariant _ _ h).left c.listed_at-s.ensures) }

pub loop-number-preserved : goal.loop-number-preserved
loop-number-preserved c = λ ps run h. held_later h (c.loop-number.invariant ps run h) c.loop-number-test.true c.listed_at-s.ensures c.if-n-reached.false

pub returns : goal.returns
returns c = λ ps run h. held_none h (c.loop-number.invariant ps run h) c.loop-number-test.false
