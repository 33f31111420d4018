-- `entries_spots` meets its contract. The invariant: from here the definition reads on to the closing brace, and the spots are those of what it read.
use mathlib.Core.Path.{◌∙◌}
use Rattle.tokens.specs.Written.{bytes}
use Rattle.held.proofs.Grammar.{moves_entry}
use Rattle.spots.proofs.Following.{turn, again, fewer, ended}
use Rattle.spots.proofs.entries_spots.Goals as goal

pub loop-set-init : goal.loop-set-init
loop-set-init c = λ ws a us b x. record { state = ws; kept = b; rest = x }

pub entry_spots-cursor-requires : goal.entry_spots-cursor-requires
unfolding bytes
entry_spots-cursor-requires c =
    let p = c.requires.spots in
    let t = c.loop-set.invariant p.0 p.1 p.2 p.3 p.4 in
    let u = turn (moves_entry _) t c.until.ensures c.loop-set-test.true in
    record { spots_len = (c.loop-set.auto.spots ∙ c.requires.spots_len.0, c.requires.spots_len.1); spots = (t.state, u.0, u.1, t.kept, u.2) }

pub loop-set-smaller : goal.loop-set-smaller
unfolding bytes
loop-set-smaller c =
    let p = c.requires.spots in
    fewer (moves_entry _) (c.loop-set.invariant p.0 p.1 p.2 p.3 p.4) c.until.ensures c.loop-set-test.true c.entry_spots-cursor.ensures

pub loop-set-preserved : goal.loop-set-preserved
unfolding bytes
loop-set-preserved c = λ ws a us b x. again (moves_entry _) (c.loop-set.invariant ws a us b x) c.until.ensures c.loop-set-test.true c.entry_spots-cursor.ensures

pub returns : goal.returns
unfolding bytes
returns c = λ ws a us b x. ended (moves_entry _) (c.loop-set.invariant ws a us b x) c.until.ensures c.loop-set-test.false c.due.ensures
