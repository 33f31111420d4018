-- `others` meets its contract. The invariant: from here the definition reads on to the last brace, and the arrays hold what it read.
use native.Mathlib.Omega.{arith}
use Rattle.tokens.specs.Written.{bytes}
use Rattle.held.proofs.Grammar.{moves_table}
use Rattle.spots.proofs.Following.{turn, again, fewer, settled}
use Rattle.spans.proofs.Tables.{table_few, still_sized}
use Rattle.spans.proofs.others.Goals as goal

pub loop-cursor-init : goal.loop-cursor-init
loop-cursor-init c = λ tabs it us h x. record { state = tabs; kept = h; rest = x }

pub table-cursor-requires : goal.table-cursor-requires
unfolding bytes
table-cursor-requires c =
    let p = c.requires in
    let loop = c.loop-cursor in
    let t = loop.invariant p.held.0 p.held.1 p.held.2 p.held.3 p.held.4 in
    let u = turn (moves_table _) t c.until.ensures c.loop-cursor-test.true in
    record { sized = (still_sized p.sized.0 (loop.auto.firsts, loop.auto.lasts, loop.auto.periods), p.sized.1); held = (t.state, u.0, u.1, t.kept, u.2) }

pub overflow_add-j : goal.overflow_add-j
unfolding bytes
overflow_add-j c =
    let p = c.requires in
    let loop = c.loop-cursor in
    let t = loop.invariant p.held.0 p.held.1 p.held.2 p.held.3 p.held.4 in
    let u = turn (moves_table _) t c.until.ensures c.loop-cursor-test.true in
    omega (arith, table_few _ t.state u.2, t.kept.count)

pub loop-cursor-smaller : goal.loop-cursor-smaller
unfolding bytes
loop-cursor-smaller c =
    let p = c.requires in
    fewer (moves_table _) (c.loop-cursor.invariant p.held.0 p.held.1 p.held.2 p.held.3 p.held.4) c.until.ensures c.loop-cursor-test.true c.table-cursor.ensures

pub loop-cursor-preserved : goal.loop-cursor-preserved
unfolding bytes
loop-cursor-preserved c = λ tabs it us h x. again (moves_table _) (c.loop-cursor.invariant tabs it us h x) c.until.ensures c.loop-cursor-test.true c.table-cursor.ensures

pub returns : goal.returns
unfolding bytes
returns c = λ tabs it us h x. (settled (moves_table _) (c.loop-cursor.invariant tabs it us h x) c.until.ensures c.loop-cursor-test.false).spans
