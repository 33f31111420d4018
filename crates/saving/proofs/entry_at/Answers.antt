-- `entry_at` meets its contract. The invariant: the `;` that is looked for is found from here as from behind the name.
use native.Mathlib.Omega.{arith}
use mathlib.Core.Path.{refl, sym, ◌∙◌}
use Rattle.words.proofs.Flow.{fewer}
use Rattle.saving.proofs.Scanning.{among, token_inside, semicolon_here, semicolon_later, semicolon_none, entry_none, entry_upto, upto_found, upto_none}
use Rattle.saving.proofs.entry_at.Goals as goal

pub returns-then-name : goal.returns-then-name
returns-then-name c = sym (entry_none _ c.cursor_at-name.ensures c.if-name.true)

pub loop-c-init : goal.loop-c-init
loop-c-init c = (refl, among c.cursor_at-c.ensures)

pub overflow_add-result : goal.overflow_add-result
overflow_add-result c = omega (arith, token_inside _ c.loop-c.c c.loop-c-test.true c.loop-c.invariant.1)

pub returns-then-is_semicolon : goal.returns-then-is_semicolon
returns-then-is_semicolon c =
    let text = c.args.text.now in
    sym (entry_upto text c.cursor_at-name.ensures c.if-name.false c.cursor_at-c.ensures
    ∙ upto_found _ (c.loop-c.invariant.0 ∙ semicolon_here text c.loop-c.c c.loop-c-test.true (sym c.is_semicolon.ensures ∙ c.if-is_semicolon.true)))

pub loop-c-smaller : goal.loop-c-smaller
loop-c-smaller c = omega (arith, fewer _ c.loop-c.c c.loop-c-test.true c.cursor_at-c-in-loop-c.ensures)

pub loop-c-preserved : goal.loop-c-preserved
loop-c-preserved c =
    (c.loop-c.invariant.0 ∙ semicolon_later _ c.loop-c.c c.loop-c-test.true (sym c.is_semicolon.ensures ∙ c.if-is_semicolon.false) c.cursor_at-c-in-loop-c.ensures, among c.cursor_at-c-in-loop-c.ensures)

pub returns : goal.returns
returns c =
    let text = c.args.text.now in
    sym (entry_upto text c.cursor_at-name.ensures c.if-name.false c.cursor_at-c.ensures
    ∙ upto_none _ (c.loop-c.invariant.0 ∙ semicolon_none text c.loop-c.c c.loop-c-test.false))
