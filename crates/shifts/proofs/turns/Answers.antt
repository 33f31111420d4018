-- Each turn of the loop is a turn of the V, from the one that has the cycle looked for on.
use mathlib.Core.Path.{sym, ◌∙◌}
use Rattle.pins.proofs.Callers.{others_then}
use Rattle.shifts.proofs.Turning.{after_all, after_more, after_over, shifting_all}
use Rattle.shifts.proofs.turns.Goals as goal

pub returns-then-over : goal.returns-then-over
returns-then-over c =
    let x = c.loop.invariant in
    let more = c.loop-test.true in
    let ended = sym c.over.ensures ∙ c.if-over.true in (
      others_then (others_then c.skip.ensures.0 x.others) c.put.ensures.0,
      shifting_all c.skip.ensures.1 c.past-w.ensures c.requires.3
          (after_over x more c.put.ensures.0 c.put.ensures.1 c.cycle-w.ensures ended),
    )

pub loop-preserved : goal.loop-preserved
loop-preserved c =
    let x = c.loop.invariant in
    let more = c.loop-test.true in
    let on = sym c.over.ensures ∙ c.if-over.false in
    after_more x more c.put.ensures.0 c.put.ensures.1 c.cycle-w.ensures on

pub returns : goal.returns
returns c =
    let x = c.loop.invariant in
    let inside = c.requires.3 in (
      others_then c.skip.ensures.0 x.others,
      shifting_all c.skip.ensures.1 c.past-w.ensures inside
          (after_all x inside c.loop-test.false),
    )
