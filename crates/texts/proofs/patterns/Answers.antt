-- `patterns` meets its contract: reading on behind the patterns so far is reading all of them, for every text of which the book has these.
use native.Mathlib.Omega.{arith}
use mathlib.Core.Path.{refl, ◌∙◌}
use mathlib.Core.List.{[]}
use Rattle.meaning.specs.Document.{patterns as patterns_due}
use Rattle.words.proofs.Loops.{on}
use Rattle.timing.proofs.Making.{looping, again, fewer, leaves, makes_bind}
use Rattle.noted.proofs.Marking.{grows_none, grows_then}
use Rattle.texts.proofs.Keeping.{takes_pattern, test_over}
use borrow.Author.Rules.{rules}
use Rattle.texts.proofs.patterns.Goals as goal

pub pattern-cursor-requires : goal.pattern-cursor-requires
pattern-cursor-requires c =
    let pre' = c.requires in
    (record { env = pre'.0.env; describes = pre'.0.patterned.describes }, omega arith, search rules, search rules, pre'.1)

pub loop-cursor-init : goal.loop-cursor-init
loop-cursor-init c =
    let pattern' = c.pattern-cursor in
    (λ u e b ps h. looping ps h, pattern'.ensures.0, pattern'.ensures.1, refl, grows_none)

pub pattern-cursor-requires-in-loop-cursor : goal.pattern-cursor-requires-in-loop-cursor
pattern-cursor-requires-in-loop-cursor c =
    let pattern' = c.pattern-cursor in
    let pre' = c.requires in
    let loop' = c.loop-cursor in
    let args' = c.args in
    let if1' = c.loop-cursor-test in
    let first = pattern'.ensures.2 _ pre'.0.env pre'.0.name [] pre'.0.patterned in
    let so_far = (loop'.invariant.0 _ pre'.0.env pre'.0.name first.it first.held).kept (on _ _ (test_over args'.text.now loop'.cursor) if1'.true) in
    (record { env = pre'.0.env; describes = so_far.describes }, so_far.few, loop'.invariant.1, loop'.invariant.2, loop'.invariant.4.long ∙ pattern'.ensures.3.long ∙ pre'.1)

pub overflow_add-count : goal.overflow_add-count
overflow_add-count c =
    let pattern' = c.pattern-cursor in
    let pre' = c.requires in
    let loop' = c.loop-cursor in
    let args' = c.args in
    let if1' = c.loop-cursor-test in
    let first = pattern'.ensures.2 _ pre'.0.env pre'.0.name [] pre'.0.patterned in
    let so_far = (loop'.invariant.0 _ pre'.0.env pre'.0.name first.it first.held).kept (on _ _ (test_over args'.text.now loop'.cursor) if1'.true) in
    omega (arith, so_far.few)

pub loop-cursor-smaller : goal.loop-cursor-smaller
loop-cursor-smaller c =
    let pattern' = c.pattern-cursor in
    let pre' = c.requires in
    let loop' = c.loop-cursor in
    let args' = c.args in
    let if1' = c.loop-cursor-test in
    let pattern2' = c.pattern-cursor-in-loop-cursor in
    let first = pattern'.ensures.2 _ pre'.0.env pre'.0.name [] pre'.0.patterned in
    fewer (takes_pattern pre'.0.env pre'.0.name) (loop'.invariant.0 _ pre'.0.env pre'.0.name first.it first.held) (test_over args'.text.now loop'.cursor) if1'.true
    (λ ps s. pattern2'.ensures.2 _ pre'.0.env pre'.0.name ps s)

pub loop-cursor-preserved : goal.loop-cursor-preserved
loop-cursor-preserved c =
    let loop' = c.loop-cursor in
    let args' = c.args in
    let if1' = c.loop-cursor-test in
    let pattern2' = c.pattern-cursor-in-loop-cursor in (
      λ u e b ps h. again (takes_pattern e b) (loop'.invariant.0 u e b ps h) (test_over args'.text.now loop'.cursor) if1'.true (λ qs s. pattern2'.ensures.2 u e b qs s),
      pattern2'.ensures.0,
      pattern2'.ensures.1,
      pattern2'.auto.book ∙ loop'.invariant.3,
      grows_then loop'.invariant.4 pattern2'.ensures.3,
    )

pub shape_of-book : goal.shape_of-book
shape_of-book c =
    let loop' = c.loop-cursor in
    let pattern' = c.pattern-cursor in
    loop'.invariant.3 ∙ pattern'.auto.book

pub shape_of-used : goal.shape_of-used
shape_of-used c =
    let loop' = c.loop-cursor in
    let pattern' = c.pattern-cursor in
    loop'.invariant.4.long ∙ pattern'.ensures.3.long

pub returns : goal.returns
unfolding patterns_due
returns c =
    let pattern' = c.pattern-cursor in
    let loop' = c.loop-cursor in
    let args' = c.args in (
      λ e b s.
          let first = pattern'.ensures.2 _ e b [] s in
          makes_bind _ first (leaves (takes_pattern e b) (loop'.invariant.0 _ e b first.it first.held) (test_over args'.text.now loop'.cursor) c.loop-cursor-test.false),
      grows_then pattern'.ensures.3 loop'.invariant.4,
    )
