-- `opened` meets its contract.
use mathlib.Core.Bool.{true, false}
use Rattle.tokens.specs.Written.{bytes}
use Rattle.bodies.proofs.Ordering.{block_opened}
use Rattle.bodies.proofs.opened.Goals as goal

pub returns-then-macros : goal.returns-then-macros
unfolding bytes
returns-then-macros c =
    let if1' = c.if-macros in
    let due' = c.due-a in
    λ k. rw if1'.true (block_opened true k due'.ensures c.due.ensures)

pub returns : goal.returns
unfolding bytes
returns c =
    let if1' = c.if-macros in
    let due3' = c.due-a-2 in
    λ k. rw if1'.false (block_opened false k due3'.ensures c.due-2.ensures)
