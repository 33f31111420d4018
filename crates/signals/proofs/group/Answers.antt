-- `group` meets its contract: where nothing was refused there is room in the tables, and what is written there is the new name.
use mathlib.Core.Path.{sym, ◌∙◌}
use native.Mathlib.Omega.{arith}
use borrow.Author.Tests.{eq-eqb, eqb-true}
use Rattle.tokens.specs.Written.{bytes}
use Rattle.sets.specs.Sets.{list_of}
use Rattle.signals.proofs.Declaring.{Group, group_read, group_fits, group_goes}
use Rattle.signals.proofs.group.Goals as goal

pub expression-x-requires : goal.expression-x-requires
expression-x-requires c =
    let pre' = c.requires in
    pre'.0

pub returns-then-r-ne0 : goal.returns-then-r-ne0
unfolding bytes
returns-then-r-ne0 c =
    let declared : Group c.args.text.now c.args.places.now c.args.lists.now c.args.count c.args.n (list_of c.expression-x.result.set) c.args.c c.due-r.result =
    group_read c.new_name-a.ensures c.refuse_if-b.ensures c.due-d.ensures c.due-e.ensures c.expression-x.ensures c.due-g.ensures c.refuse_if-h.ensures c.is_empty.ensures c.due-r.ensures in
    let pre' = c.requires in
    record { goes = group_goes declared (λ on. absurd (c.if-r-ne0.true (eqb-true _ _ on))); sized = pre'.0.sized; chained = λ on. absurd (c.if-r-ne0.true (eqb-true _ _ on)) }

pub add-requires : goal.add-requires
unfolding bytes
add-requires c =
    let declared : Group c.args.text.now c.args.places.now c.args.lists.now c.args.count c.args.n (list_of c.expression-x.result.set) c.args.c c.due-r.result =
    group_read c.new_name-a.ensures c.refuse_if-b.ensures c.due-d.ensures c.due-e.ensures c.expression-x.ensures c.due-g.ensures c.refuse_if-h.ensures c.is_empty.ensures c.due-r.ensures in
    let pre' = c.requires in
    let if1' = c.if-r-ne0 in
    let few = group_fits declared (eq-eqb _ _ if1'.false) in
    (pre'.0.sized, pre'.0.chained, omega (arith, pre'.1))

pub shape_of-places : goal.shape_of-places
shape_of-places c =
    let pre' = c.requires in
    let add' = c.add in
    add'.ensures.sized.all ∙ sym pre'.0.sized.all

pub shape_of-lists : goal.shape_of-lists
shape_of-lists c =
    let pre' = c.requires in
    let add' = c.add in
    add'.ensures.sized.rows ∙ sym pre'.0.sized.rows

pub returns : goal.returns
unfolding bytes
returns c =
    let declared : Group c.args.text.now c.args.places.now c.args.lists.now c.args.count c.args.n (list_of c.expression-x.result.set) c.args.c c.due-r.result =
    group_read c.new_name-a.ensures c.refuse_if-b.ensures c.due-d.ensures c.due-e.ensures c.expression-x.ensures c.due-g.ensures c.refuse_if-h.ensures c.is_empty.ensures c.due-r.ensures in
    let args' = c.args in
    let add' = c.add in
    record { goes = group_goes declared (λ on. add'.ensures.names); sized = add'.ensures.sized; chained = λ on. add'.ensures.chained }
