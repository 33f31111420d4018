-- `cycle` meets its contract: the cycle is passed, or it is reached, and its row goes to its own part of the buffer.
use native.Mathlib.Omega.{arith}
use mathlib.Core.Path.{refl, sym, ap, ◌∙◌, subst}
use mathlib.Core.List.{[], ◌∷◌}
use Rattle.rows.specs.Went.{past, Went}
use Rattle.rows.specs.declared.Walk.{Walk}
use Rattle.rows.proofs.Going.{went_past}
use Rattle.rows.proofs.Showing.{cycled_wide}
use Rattle.rows.proofs.Placing.{place_fits, place_below, part_room, rows_few, went_unshown, went_shown}
use Rattle.rows.proofs.cycle.Goals as goal

pub past-requires : goal.past-requires
past-requires c = omega (arith, ap (λ (x : Walk). x.pass) c.spend-x.ensures)

pub returns-then-w-gt0 : goal.returns-then-w-gt0
returns-then-w-gt0 c =
    let w = c.args.w in λ k z.
    subst (λ (r : Walk). Went c.args.signals (k ∷ []) 1 w r c.args.buffer.now c.args.buffer.now)
    (sym (c.past.ensures ∙ ap (λ (x : Walk). past x 1) c.spend-x.ensures))
    (went_past (k ∷ []) 1 w c.args.buffer.now c.requires.2.more c.requires.3 (omega arith))

pub returns-then-w-eq0 : goal.returns-then-w-eq0
returns-then-w-eq0 c =
    λ k z.
    went_unshown k c.args.buffer.now (omega arith) c.requires.3 c.spend-x.ensures c.if-w-eq0.true

pub overflow_mul-part : goal.overflow_mul-part
overflow_mul-part c =
    place_fits c.requires.2 (omega arith) _ (omega arith) (omega arith)

pub slice_bounds-part-count : goal.slice_bounds-part-count
slice_bounds-part-count c =
    place_below c.requires.2 (omega arith) _ (omega arith)

pub slice_bounds-part-start : goal.slice_bounds-part-start
slice_bounds-part-start c = place_below c.requires.2 (omega arith) _ (omega arith)

pub put_row-requires : goal.put_row-requires
put_row-requires c =
    (c.requires.0, c.requires.1, part_room c.requires.2 (omega arith) _ (omega arith))

pub overflow_add-result : goal.overflow_add-result
overflow_add-result c =
    omega (arith, rows_few c.requires.2 (omega arith))

pub returns : goal.returns
returns c =
    let put = c.put_row in λ k z.
    went_shown k c.args.buffer.now (omega arith) c.requires.3 c.spend-x.ensures (omega arith) _ refl
    (cycled_wide z (omega arith)) put.new.part (put.ensures.0 k z) put.ensures.1
