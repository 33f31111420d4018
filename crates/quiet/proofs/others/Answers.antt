-- `others` meets its contract. The invariant: from here the definition reads on to the closing brace, and what it read lies within the cycles.
use Rattle.tokens.specs.Written.{bytes}
use Rattle.spots.proofs.Following.{again, fewer, ended}
use Rattle.held.proofs.Grammar.{moves_table}
use Rattle.quiet.proofs.Keeping.{coming}
use Rattle.quiet.proofs.others.Goals as goal

pub loop-cursor-init : goal.loop-cursor-init
loop-cursor-init c = λ ns s a us h x. record { state = s; kept = h; rest = x }

pub table-requires : goal.table-requires
unfolding bytes
table-requires c =
    let p = c.requires in
    (p.0, coming (moves_table p.0) (c.loop-cursor.invariant p.0 p.1.state p.1.answer p.1.rest p.1.kept p.1.read) c.until.ensures c.loop-cursor-test.true)

pub loop-cursor-smaller : goal.loop-cursor-smaller
unfolding bytes
loop-cursor-smaller c =
    let p = c.requires in
    fewer (moves_table p.0) (c.loop-cursor.invariant p.0 p.1.state p.1.answer p.1.rest p.1.kept p.1.read) c.until.ensures c.loop-cursor-test.true (c.in_ok-cursor.ensures p.0)

pub loop-cursor-preserved : goal.loop-cursor-preserved
unfolding bytes
loop-cursor-preserved c = λ ns s a us h x. again (moves_table ns) (c.loop-cursor.invariant ns s a us h x) c.until.ensures c.loop-cursor-test.true (c.in_ok-cursor.ensures ns)

pub returns : goal.returns
unfolding bytes
returns c = λ ns s a us h x. ended (moves_table ns) (c.loop-cursor.invariant ns s a us h x) c.until.ensures c.loop-cursor-test.false c.due.ensures
