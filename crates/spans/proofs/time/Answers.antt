-- `time` meets its contract: what stands at a character that has times.
use native.Mathlib.Omega.{arith}
use mathlib.Core.Path.{sym, ◌∙◌}
use Rattle.spans.proofs.Looking.{inside_low, inside_high, pick_yes, pick_no}
use Rattle.spans.proofs.time.Goals as goal

pub overflow_sub-at : goal.overflow_sub-at
overflow_sub-at c = omega (arith, inside_low c.args.c (sym c.inside.ensures ∙ c.if-inside.true))

pub bounds-row-at : goal.bounds-row-at
bounds-row-at c =
    let e = sym c.inside.ensures ∙ c.if-inside.true in
    omega (arith, inside_low c.args.c e, inside_high c.args.c e)

pub returns-then-inside : goal.returns-then-inside
returns-then-inside c = pick_yes _ _ _ (sym c.inside.ensures ∙ c.if-inside.true)

pub returns : goal.returns
returns c = pick_no _ _ _ (sym c.inside.ensures ∙ c.if-inside.false)
