-- `table_spots` meets its contract. The invariant: from here the definition reads on to the closing brace, and the spots are those of what it read.
use mathlib.Core.Path.{◌∙◌}
use Rattle.tokens.specs.Written.{bytes}
use Rattle.held.proofs.Grammar.{moves_waveforms}
use Rattle.spots.proofs.Following.{turn, again, fewer, ended}
use Rattle.spots.proofs.table_spots.Goals as goal

pub loop-scope-init : goal.loop-scope-init
loop-scope-init c = λ ws a us b x. record { state = ws; kept = b; rest = x }

pub name_spots-cursor-requires : goal.name_spots-cursor-requires
unfolding bytes
name_spots-cursor-requires c =
    let p = c.requires.spots in
    let t = c.loop-scope.invariant p.0 p.1 p.2 p.3 p.4 in
    let u = turn (moves_waveforms _) t c.until.ensures c.loop-scope-test.true in
    record { spots_len = (c.loop-scope.auto.spots ∙ c.requires.spots_len.0, c.requires.spots_len.1); spots = (t.state, u.0, u.1, t.kept, u.2) }

pub loop-scope-smaller : goal.loop-scope-smaller
unfolding bytes
loop-scope-smaller c =
    let p = c.requires.spots in
    fewer (moves_waveforms _) (c.loop-scope.invariant p.0 p.1 p.2 p.3 p.4) c.until.ensures c.loop-scope-test.true c.name_spots-cursor.ensures

pub loop-scope-preserved : goal.loop-scope-preserved
unfolding bytes
loop-scope-preserved c = λ ws a us b x. again (moves_waveforms _) (c.loop-scope.invariant ws a us b x) c.until.ensures c.loop-scope-test.true c.name_spots-cursor.ensures

pub returns : goal.returns
unfolding bytes
returns c = λ ws a us b x. ended (moves_waveforms _) (c.loop-scope.invariant ws a us b x) c.until.ensures c.loop-scope-test.false c.due.ensures
