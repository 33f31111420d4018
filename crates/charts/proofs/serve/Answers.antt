-- `serve` meets its contract. The invariant: the rest of the list is served behind what was, on what is left of all buffers.
use Prim.Native.Nat.{◌-◌}
use native.Mathlib.Omega.{arith}
use Rattle.charts.proofs.Lists.{asked_few, next_asked}
use Rattle.charts.proofs.Turns.{serving_none, serving_all, served_room, serving_stops, count_fits, serving_more}
use Rattle.charts.proofs.serve.Goals as goal

pub loop-at-init : goal.loop-at-init
loop-at-init c = serving_none c.requires.asked_len_bound

pub ask-answer-requires : goal.ask-answer-requires
ask-answer-requires c =
    (c.requires.accepted, c.loop-at-test.true, asked_few _ c.requires.asked_len_bound.0)

pub returns-in-Err : goal.returns-in-Err
returns-in-Err c =
    let ask = c.ask-answer in
    let inv = c.loop-at.invariant in
    let next = next_asked _ _ c.loop-at-test.true in
    serving_stops inv next (ask.ensures _ _ next.cut) c.in-Err.is

pub bounds-counts-served : goal.bounds-counts-served
bounds-counts-served c =
    let ask = c.ask-answer in
    let inv = c.loop-at.invariant in
    let next = next_asked _ _ c.loop-at-test.true in
    omega (arith, (served_room inv next).0)

pub overflow_add-events : goal.overflow_add-events
overflow_add-events c =
    let ask = c.ask-answer in
    let inv = c.loop-at.invariant in
    let next = next_asked _ _ c.loop-at-test.true in
    omega (arith, (count_fits inv next (ask.ensures _ _ next.cut) c.in-Ok.is).0)

pub loop-at-preserved : goal.loop-at-preserved
loop-at-preserved c =
    let ask = c.ask-answer in
    let inv = c.loop-at.invariant in
    let next = next_asked _ _ c.loop-at-test.true in
    serving_more inv next (ask.ensures _ _ next.cut) c.in-Ok.is ask.auto.times ask.auto.letters

pub returns : goal.returns
returns c = serving_all c.loop-at.invariant c.loop-at-test.false
