-- `bodies` meets its contract: the block whose word is ahead, and then the other.
use mathlib.Core.Path.{◌∙◌}
use borrow.Author.Tests.{eq-eqb, ne_eqb}
use Rattle.noted.proofs.Marking.{grows_then}
use Rattle.bodies.proofs.Ordering.{declared_then, both_blocks, block_refused}
use borrow.Author.Rules.{rules}
use Rattle.bodies.proofs.bodies.Goals as goal

pub returns-then-cursor-ne0 : goal.returns-then-cursor-ne0
returns-then-cursor-ne0 c =
    let pre' = c.requires in
    let begins' = c.begins-macros in
    let block' = c.block-m in
    let s = pre'.0.describes in (
      block'.auto.book ∙ s.book_long,
      block'.auto.rows ∙ s.rows_long,
      λ e s. block_refused begins'.result e begins'.ensures (block'.ensures.0 e s) (ne_eqb _ _ c.if-cursor-ne0.true),
      block'.ensures.1,
    )

pub block-requires : goal.block-requires
block-requires c =
    let pre' = c.requires in
    let block' = c.block-m in
    let if1' = c.if-cursor-ne0 in
    let m = block'.ensures.0 pre'.0.env pre'.0.describes in
    (record { env = m.it; describes = (m.held (eq-eqb _ _ if1'.false)).describes }, search rules, block'.ensures.1.long ∙ pre'.1)

pub returns : goal.returns
returns c =
    let pre' = c.requires in
    let begins' = c.begins-macros in
    let block' = c.block-m in
    let if1' = c.if-cursor-ne0 in
    let block2' = c.block in
    let s = pre'.0.describes in (
      block2'.auto.book ∙ block'.auto.book ∙ s.book_long,
      block2'.auto.rows ∙ block'.auto.rows ∙ s.rows_long,
      λ e s.
          let m = block'.ensures.0 e s in
          let h = m.held (eq-eqb _ _ if1'.false) in
          both_blocks begins'.result e begins'.ensures m (declared_then h (block2'.ensures.0 m.it h.describes)),
      grows_then block'.ensures.1 block2'.ensures.1,
    )
