-- `pattern` meets its contract: where nothing was refused, there was room for one pattern more, and the book has it; it is noted too.
use Prim.Native.Nat.{◌*◌}
use native.Mathlib.Omega.{arith}
use borrow.Author.Tests.{eq-eqb, eqb-true}
use Rattle.tokens.specs.Written.{bytes}
use Rattle.measures.specs.Book.{burst}
use Rattle.words.proofs.Words.{rest}
use Rattle.texts.proofs.Keeping.{pattern_room, pattern_refused, pattern_kept}
use Rattle.texts.proofs.pattern.Goals as goal

pub slice_bounds-new_name-count : goal.slice_bounds-new_name-count
slice_bounds-new_name-count c =
    let pre' = c.requires in
    omega (arith, pre'.0.describes.book_long)

pub slice_bounds-new_name-start : goal.slice_bounds-new_name-start
slice_bounds-new_name-start c =
    let pre' = c.requires in
    omega (arith, pre'.0.describes.book_long)

pub statements-x-requires : goal.statements-x-requires
statements-x-requires c =
    let pre' = c.requires in
    (pre'.0, omega arith, pre'.2, pre'.3, pre'.4)

pub returns-then-r-ne0 : goal.returns-then-r-ne0
unfolding bytes
returns-then-r-ne0 c =
    let statements' = c.statements-x in
    let args' = c.args in
    let due' = c.due-a in
    let refuse-if' = c.refuse_if-b in
    let new-name' = c.new_name-d in
    let due2' = c.due-e in (
      statements'.ensures.0,
      statements'.ensures.1,
      λ u e b ps s.
          pattern_refused s (rest args'.book.now (burst * 2)) due'.ensures refuse-if'.ensures new-name'.ensures due2'.ensures
          (statements'.ensures.2 e s.describes) (λ live. c.if-r-ne0.true (eqb-true _ _ live)),
      statements'.ensures.3,
    )

pub overflow_add-count-2 : goal.overflow_add-count-2
overflow_add-count-2 c =
    let pre' = c.requires in
    omega (arith, pre'.1)

pub keep-requires : goal.keep-requires
keep-requires c =
    let pre' = c.requires in
    let args' = c.args in
    let refuse-if' = c.refuse_if-b in
    let new-name' = c.new_name-d in
    let due2' = c.due-e in
    let statements' = c.statements-x in (
      pre'.0.describes.book_long,
      omega (
        arith,
        pattern_room args'.count refuse-if'.ensures new-name'.ensures due2'.ensures
            (statements'.ensures.2 pre'.0.env pre'.0.describes).goes (eq-eqb _ _ c.if-r-ne0.false),
      ),
    )

pub returns : goal.returns
unfolding bytes
returns c =
    let statements' = c.statements-x in
    let args' = c.args in
    let due' = c.due-a in
    let refuse-if' = c.refuse_if-b in
    let new-name' = c.new_name-d in
    let due2' = c.due-e in
    let if1' = c.if-r-ne0 in (
      statements'.ensures.0,
      statements'.ensures.1,
      λ u e b ps s.
          pattern_kept s (rest args'.book.now (burst * 2)) due'.ensures refuse-if'.ensures new-name'.ensures due2'.ensures
          (statements'.ensures.2 e s.describes) (eq-eqb _ _ if1'.false) c.keep.ensures statements'.ensures.3,
      statements'.ensures.3,
    )
