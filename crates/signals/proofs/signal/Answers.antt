-- `signal` meets its contract: where nothing was refused there is room in the tables, and what is written there is the new name.
use mathlib.Core.Path.{refl, sym, ◌∙◌}
use native.Mathlib.Omega.{arith}
use borrow.Author.Tests.{eq-eqb, eqb-true}
use Rattle.tokens.specs.Written.{bytes}
use Rattle.signals.proofs.Declaring.{signal_read, signal_fits, signal_goes}
use Rattle.signals.proofs.signal.Goals as goal

pub returns-then-r-ne0 : goal.returns-then-r-ne0
unfolding bytes
returns-then-r-ne0 c =
    let args' = c.args in
    let pre' = c.requires in
    record {
      goes = signal_goes (signal_read c.new_name-a.ensures c.refuse_if-b.ensures c.direction-d.ensures c.due-r.ensures) args'.lists.now refl (λ on. absurd (c.if-r-ne0.true (eqb-true _ _ on)));
      sized = pre'.0;
      chained = λ on. absurd (c.if-r-ne0.true (eqb-true _ _ on));
    }

pub overflow_cast-count : goal.overflow_cast-count
unfolding bytes
overflow_cast-count c =
    let if1' = c.if-r-ne0 in
    let few = signal_fits (signal_read c.new_name-a.ensures c.refuse_if-b.ensures c.direction-d.ensures c.due-r.ensures) (eq-eqb _ _ if1'.false) in
    omega arith

pub add-requires : goal.add-requires
unfolding bytes
add-requires c =
    let pre' = c.requires in
    let if1' = c.if-r-ne0 in
    let few = signal_fits (signal_read c.new_name-a.ensures c.refuse_if-b.ensures c.direction-d.ensures c.due-r.ensures) (eq-eqb _ _ if1'.false) in
    (pre'.0, pre'.1, omega arith)

pub shape_of-places : goal.shape_of-places
shape_of-places c =
    let pre' = c.requires in
    let add' = c.add in
    add'.ensures.sized.all ∙ sym pre'.0.all

pub shape_of-lists : goal.shape_of-lists
shape_of-lists c =
    let pre' = c.requires in
    let add' = c.add in
    add'.ensures.sized.rows ∙ sym pre'.0.rows

pub returns : goal.returns
unfolding bytes
returns c =
    let args' = c.args in
    let single' = c.single in
    let add' = c.add in
    record {
      goes =
          signal_goes (signal_read c.new_name-a.ensures c.refuse_if-b.ensures c.direction-d.ensures c.due-r.ensures) args'.lists.now single'.ensures
          (λ on. add'.ensures.names);
      sized = add'.ensures.sized;
      chained = λ on. add'.ensures.chained;
    }
