-- `block_at` meets its contract. The invariant: the block that is looked for is found from here as from the text's start.
use native.Mathlib.Omega.{arith}
use Rattle.words.proofs.Flow.{fewer}
use Rattle.saving.proofs.Scanning.{token_inside, looks_start, looks_room, looks_found, looks_on, looks_last, looks_none}
use Rattle.saving.proofs.block_at.Goals as goal

pub loop-c-init : goal.loop-c-init
loop-c-init c = looks_start _ _ c.cursor_at-c.ensures

pub scanned-s-requires : goal.scanned-s-requires
scanned-s-requires c =
    let look = c.loop-c in
    (looks_room _ _ look.invariant c.loop-c-test.true, token_inside _ look.c c.loop-c-test.true look.invariant.among)

pub overflow_add-behind : goal.overflow_add-behind
overflow_add-behind c = let look = c.loop-c in omega (arith, token_inside _ look.c c.loop-c-test.true look.invariant.among)

pub returns-then-s-p : goal.returns-then-s-p
returns-then-s-p c = looks_found _ _ c.loop-c.invariant c.loop-c-test.true c.scanned-s.ensures c.if-s-p.true

pub loop-c-smaller : goal.loop-c-smaller
loop-c-smaller c = omega (arith, fewer _ c.loop-c.c c.loop-c-test.true c.cursor_at-c-in-loop-c.ensures)

pub loop-c-preserved : goal.loop-c-preserved
loop-c-preserved c = looks_on _ _ c.loop-c.invariant c.loop-c-test.true c.scanned-s.ensures c.cursor_at-c-in-loop-c.ensures c.if-s-p.false

pub returns-then-s-p-2 : goal.returns-then-s-p-2
returns-then-s-p-2 c = looks_last _ _ c.loop-c.invariant c.loop-c-test.false c.if-s-p-2.true

pub returns : goal.returns
returns c = looks_none _ _ c.loop-c.invariant c.loop-c-test.false c.if-s-p-2.false
