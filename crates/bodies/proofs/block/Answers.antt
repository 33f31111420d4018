-- `block` meets its contract. What is kept at each body: reading on with what is declared so far is reading the whole block, and the tables describe that and note it.
use mathlib.Core.Path.{refl, ap, ◌∙◌}
use mathlib.Core.Bool.{not}
use Rattle.tokens.specs.Written.{bytes}
use Rattle.words.proofs.Loops.{on}
use Rattle.timing.proofs.Making.{looping, again, fewer, leaves, closes, makes_onward}
use Rattle.bodies.specs.Blocks.{one_of}
use Rattle.noted.proofs.Marking.{grows_none, grows_then}
use Rattle.bodies.proofs.Ordering.{takes_one, declared_then, block_there, block_missing}
use Rattle.bodies.proofs.block.Goals as goal

pub returns-then-not-begins : goal.returns-then-not-begins
unfolding bytes
returns-then-not-begins c =
    let args' = c.args in
    (λ e s. block_missing args'.macros e c.begins.ensures (ap not c.if-not-begins.true) (record { describes = s; knows = λ k. k }), grows_none)

pub loop-book-init : goal.loop-book-init
loop-book-init c = (refl, refl, refl, grows_none, λ e s. looping e (λ live. record { describes = s; knows = λ k. k }))

pub one_body-x-requires : goal.one_body-x-requires
one_body-x-requires c =
    let pre' = c.requires in
    let loop' = c.loop-book in
    let until' = c.until in
    let if2' = c.loop-book-test in
    let l = loop'.invariant.4 pre'.0.env pre'.0.describes in
    (record { env = l.state; describes = (l.kept (on _ _ until'.ensures if2'.true)).describes }, loop'.invariant.2 ∙ pre'.1, loop'.invariant.3.long ∙ pre'.2)

pub loop-book-smaller : goal.loop-book-smaller
loop-book-smaller c =
    let args' = c.args in
    let pre' = c.requires in
    let loop' = c.loop-book in
    let until' = c.until in
    let if2' = c.loop-book-test in
    let one-body' = c.one_body-x in
    fewer (takes_one args'.macros) (loop'.invariant.4 pre'.0.env pre'.0.describes) until'.ensures if2'.true (λ f h. declared_then h (one-body'.ensures.0 f h.describes))

pub loop-book-preserved : goal.loop-book-preserved
loop-book-preserved c =
    let args' = c.args in
    let loop' = c.loop-book in
    let until' = c.until in
    let if2' = c.loop-book-test in
    let one-body' = c.one_body-x in (
      one-body'.auto.book ∙ loop'.invariant.0,
      one-body'.auto.rows ∙ loop'.invariant.1,
      one-body'.auto.args ∙ loop'.invariant.2,
      grows_then loop'.invariant.3 one-body'.ensures.1,
      λ e s. again (takes_one args'.macros) (loop'.invariant.4 e s) until'.ensures if2'.true (λ f h. declared_then h (one-body'.ensures.0 f h.describes)),
    )

pub shape_of-book : goal.shape_of-book
shape_of-book c =
    let loop' = c.loop-book in
    loop'.invariant.0

pub shape_of-rows : goal.shape_of-rows
shape_of-rows c =
    let loop' = c.loop-book in
    loop'.invariant.1

pub shape_of-args : goal.shape_of-args
shape_of-args c =
    let loop' = c.loop-book in
    loop'.invariant.2

pub shape_of-used : goal.shape_of-used
shape_of-used c =
    let loop' = c.loop-book in
    loop'.invariant.3.long

pub returns : goal.returns
unfolding bytes
returns c =
    let args' = c.args in
    let begins' = c.begins in
    let if1' = c.if-not-begins in
    let opened' = c.opened-cursor in
    let loop' = c.loop-book in
    let until' = c.until in
    let if2' = c.loop-book-test in (
      λ e s.
          block_there args'.macros e begins'.ensures (ap not if1'.false)
          (makes_onward (opened'.ensures _) (closes "}" (one_of args'.macros) e (leaves (takes_one args'.macros) (loop'.invariant.4 e s) until'.ensures if2'.false) c.due-end.ensures)),
      loop'.invariant.3,
    )
