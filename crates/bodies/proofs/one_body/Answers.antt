-- `one_body` meets its contract: where nothing was refused, there was room for one body more, and the book and its row have it; it is noted too.
use Prim.Native.Nat.{◌+◌, ◌<◌}
use native.Mathlib.Omega.{arith}
use borrow.Author.Tests.{eq-eqb, ne_eqb}
use Rattle.tokens.specs.Written.{bytes}
use Rattle.meaning.specs.Bounds.{bodies_most}
use Rattle.bodies.proofs.Declaring.{first_most, count_below, room_for, body_refused, body_kept}
use borrow.Author.Rules.{rules}
use Rattle.bodies.proofs.one_body.Goals as goal
use Rattle.bodies.proofs.one_body.Goals.{Else-end-ne0}

-- where nothing was refused
room : (c : Else-end-ne0) → c.args.known.macros + c.args.known.procs < bodies_most
unfolding bytes
room c =
    let s = c.requires.0 in
    room_for c.args.macros c.part_of-part.ensures s.describes c.new_name-a.ensures c.refuse_if-b.ensures c.due-d.ensures
    (c.statements-x.ensures.2 s.env s.describes)
    (eq-eqb _ _ c.if-end-ne0.false)

pub overflow_mul-first : goal.overflow_mul-first
overflow_mul-first c =
    let args' = c.args in
    omega (arith, first_most args'.known args'.macros c.part_of-part.ensures)

pub offset_bounds-book-first : goal.offset_bounds-book-first
offset_bounds-book-first c =
    let args' = c.args in
    omega (arith, first_most args'.known args'.macros c.part_of-part.ensures)

pub slice_bounds-new_name-count : goal.slice_bounds-new_name-count
slice_bounds-new_name-count c =
    let args' = c.args in
    let pre' = c.requires in
    omega (arith, first_most args'.known args'.macros c.part_of-part.ensures, pre'.0.describes.book_long)

pub slice_bounds-new_name-start : goal.slice_bounds-new_name-start
slice_bounds-new_name-start c =
    let args' = c.args in
    let pre' = c.requires in
    omega (arith, first_most args'.known args'.macros c.part_of-part.ensures, pre'.0.describes.book_long)

pub statements-x-requires : goal.statements-x-requires
statements-x-requires c =
    let pre' = c.requires in
    (pre'.0, omega arith, search rules, pre'.1, pre'.2)

pub returns-then-end-ne0 : goal.returns-then-end-ne0
unfolding bytes
returns-then-end-ne0 c =
    let args' = c.args in
    let part-of' = c.part_of-part in
    let new-name' = c.new_name-a in
    let refuse-if' = c.refuse_if-b in
    let due' = c.due-d in
    let statements' = c.statements-x in (
      λ e s.
          body_refused args'.macros part-of'.ensures s new-name'.ensures refuse-if'.ensures due'.ensures (statements'.ensures.2 e s)
          (ne_eqb _ _ c.if-end-ne0.true),
      statements'.ensures.3,
    )

pub overflow_add-first : goal.overflow_add-first
overflow_add-first c =
    let args' = c.args in
    let part-of' = c.part_of-part in
    omega (arith, first_most args'.known args'.macros part-of'.ensures, count_below args'.known args'.macros part-of'.ensures (room (goal.at.overflow_add-first c).Else-end-ne0))

pub keep-requires : goal.keep-requires
keep-requires c =
    let pre' = c.requires in
    let args' = c.args in
    let part-of' = c.part_of-part in
    (pre'.0.describes.book_long, omega (arith, first_most args'.known args'.macros part-of'.ensures, count_below args'.known args'.macros part-of'.ensures (room (goal.at.keep-requires c).Else-end-ne0)))

pub overflow_add-first-2 : goal.overflow_add-first-2
overflow_add-first-2 c =
    let args' = c.args in
    let part-of' = c.part_of-part in
    omega (arith, first_most args'.known args'.macros part-of'.ensures, count_below args'.known args'.macros part-of'.ensures (room (goal.at.overflow_add-first-2 c).Else-end-ne0))

pub keep_row-requires : goal.keep_row-requires
keep_row-requires c =
    let pre' = c.requires in
    let args' = c.args in
    let part-of' = c.part_of-part in
    let statements' = c.statements-x in
    (pre'.0.describes.rows_long, statements'.ensures.0, omega (arith, first_most args'.known args'.macros part-of'.ensures, count_below args'.known args'.macros part-of'.ensures (room (goal.at.keep_row-requires c).Else-end-ne0)))

pub one_more-more-requires : goal.one_more-more-requires
one_more-more-requires c = room (goal.at.one_more-more-requires c).Else-end-ne0

pub returns : goal.returns
unfolding bytes
returns c =
    let args' = c.args in
    let part-of' = c.part_of-part in
    let new-name' = c.new_name-a in
    let refuse-if' = c.refuse_if-b in
    let due' = c.due-d in
    let statements' = c.statements-x in
    let if1' = c.if-end-ne0 in
    let keep' = c.keep in
    let keep-row' = c.keep_row in (
      λ e s.
          body_kept args'.macros part-of'.ensures s new-name'.ensures refuse-if'.ensures due'.ensures (statements'.ensures.2 e s)
          (eq-eqb _ _ if1'.false) keep'.ensures keep-row'.ensures c.one_more-more.ensures statements'.ensures.3,
      statements'.ensures.3,
    )
