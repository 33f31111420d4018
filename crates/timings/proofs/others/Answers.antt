-- `others` meets its contract. The invariant: from here the definition reads on to the last brace, and what it read is written.
use Rattle.tokens.specs.Written.{bytes}
use Rattle.held.proofs.Grammar.{moves_table}
use Rattle.spots.proofs.Following.{turn, again, fewer, settled}
use Rattle.timings.proofs.Tabling.{no_sheets, sheets_more}
use Rattle.timings.proofs.others.Goals as goal

pub loop-cursor-init : goal.loop-cursor-init
loop-cursor-init c = λ tabs it us x. record { state = tabs; kept = no_sheets _ _ _ tabs; rest = x }

pub table-x-requires : goal.table-x-requires
unfolding bytes
table-x-requires c =
    let p = c.requires.answers in
    let t = c.loop-cursor.invariant p.0 p.1 p.2 p.3 in
    let u = turn (moves_table _) t c.until.ensures c.loop-cursor-test.true in
    record { listed = c.requires.listed; answers = (t.state, u.0, u.1, u.2) }

pub loop-cursor-smaller : goal.loop-cursor-smaller
unfolding bytes
loop-cursor-smaller c =
    let p = c.requires.answers in
    fewer (moves_table _) (c.loop-cursor.invariant p.0 p.1 p.2 p.3) c.until.ensures c.loop-cursor-test.true (λ s s' vs m x. let w = c.table-x.ensures s s' vs x in (w.0, sheets_more m w.1))

pub loop-cursor-preserved : goal.loop-cursor-preserved
unfolding bytes
loop-cursor-preserved c =
    λ tabs it us y. again (moves_table _) (c.loop-cursor.invariant tabs it us y) c.until.ensures c.loop-cursor-test.true (λ s s' vs m x. let w = c.table-x.ensures s s' vs x in (w.0, sheets_more m w.1))

pub returns : goal.returns
unfolding bytes
returns c = λ tabs it us y. settled (moves_table _) (c.loop-cursor.invariant tabs it us y) c.until.ensures c.loop-cursor-test.false
