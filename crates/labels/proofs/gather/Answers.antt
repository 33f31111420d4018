-- `gather` meets its contract. The invariant: what is found from here, with the labels of the table, is what is found from the start.
use native.Mathlib.Omega.{arith}
use Rattle.words.proofs.Flow.{fewer}
use Rattle.labels.proofs.Scanning.{scans_start, scans_room, scans_within, scans_on, gathers_again, gathers_end}
use Rattle.labels.proofs.gather.Goals as goal

pub loop-c-init : goal.loop-c-init
loop-c-init c =
    scans_start _ _ _ c.requires.0 c.requires.1 c.cursor_at-c.ensures

pub note-requires : goal.note-requires
note-requires c =
    let loop = c.loop-c in
    let if1 = c.loop-c-test in
    (loop.invariant.held, scans_room _ _ _ loop.invariant if1.true, if1.true, scans_within _ _ _ loop.invariant if1.true c.requires.1)

pub shape_of-places-in-None : goal.shape_of-places-in-None
shape_of-places-in-None c =
    let loop = c.loop-c in
    omega (arith, loop.invariant.held.places_long, c.requires.0.places_long)

pub shape_of-heads-in-None : goal.shape_of-heads-in-None
shape_of-heads-in-None c =
    let loop = c.loop-c in
    omega (arith, loop.invariant.held.heads_long, c.requires.0.heads_long)

pub shape_of-nexts-in-None : goal.shape_of-nexts-in-None
shape_of-nexts-in-None c =
    let loop = c.loop-c in
    omega (arith, loop.invariant.held.nexts_long, c.requires.0.nexts_long)

pub returns-in-None : goal.returns-in-None
returns-in-None c =
    let loop = c.loop-c in
    let if1 = c.loop-c-test in
    gathers_again _ _ _ loop.invariant if1.true c.in-None.ensures

pub loop-c-smaller : goal.loop-c-smaller
loop-c-smaller c =
    let loop = c.loop-c in
    let if1 = c.loop-c-test in
    omega (arith, fewer _ loop.c if1.true c.cursor_at-c-in-loop-c.ensures)

pub loop-c-preserved : goal.loop-c-preserved
loop-c-preserved c =
    let loop = c.loop-c in
    let if1 = c.loop-c-test in
    let bytes_of = c.bytes_of in
    scans_on _ _ _ loop.invariant if1.true c.in-Some.ensures bytes_of.ensures c.behind-here.ensures c.cursor_at-c-in-loop-c.ensures

pub shape_of-places : goal.shape_of-places
shape_of-places c =
    let loop = c.loop-c in
    omega (arith, loop.invariant.held.places_long, c.requires.0.places_long)

pub shape_of-heads : goal.shape_of-heads
shape_of-heads c =
    let loop = c.loop-c in
    omega (arith, loop.invariant.held.heads_long, c.requires.0.heads_long)

pub shape_of-nexts : goal.shape_of-nexts
shape_of-nexts c =
    let loop = c.loop-c in
    omega (arith, loop.invariant.held.nexts_long, c.requires.0.nexts_long)

pub returns : goal.returns
returns c =
    let loop = c.loop-c in
    gathers_end _ _ _ loop.invariant c.loop-c-test.false
