-- `lutemeteor_waveforms` meets its contract: the answer, case by case; where calls were made there is room for a number, and it is stored.
use borrow.Author.Rules.{rules}
use mathlib.Core.Path.{ap, ◌∙◌}
use Rattle.std.specs.Prelude.{Err}
use Rattle.stil.proofs.Handing.{one_stored}
use Rattle.stil.proofs.Sketching.{stopped_room, drawn_room, sketch_refused, sketch_stopped, sketch_drawn}
use Rattle.stil.proofs.lutemeteor_waveforms.Goals as goal

pub bounds-numbers-0 : goal.bounds-numbers-0
bounds-numbers-0 c =
    let room = stopped_room _ c.args.numbers.now c.plotted.ensures (c.in-Err-Stopped.is ∙ ap Err c.in-Err-Stopped.field-0-is) in
    search rules

pub bounds-numbers-0-in-Ok : goal.bounds-numbers-0-in-Ok
bounds-numbers-0-in-Ok c =
    let room = drawn_room _ c.args.numbers.now c.plotted.ensures c.in-Ok.is in
    search rules

pub returns-in-Err-Refused : goal.returns-in-Err-Refused
returns-in-Err-Refused c =
    sketch_refused _ _ c.plotted.ensures (c.in-Err-Refused.is ∙ ap Err c.in-Err-Refused.field-0-is) c.pack.ensures

pub returns-in-Err-Stopped : goal.returns-in-Err-Stopped
returns-in-Err-Stopped c =
    let numbers = c.args.numbers.now in
    let called = c.plotted in
    let stopped = (c.in-Err-Stopped.is ∙ ap Err c.in-Err-Stopped.field-0-is) in
    sketch_stopped _ numbers called.ensures stopped c.pack-in-Err-Stopped.ensures (one_stored numbers _ (stopped_room _ numbers called.ensures stopped))

pub returns-in-Ok : goal.returns-in-Ok
returns-in-Ok c =
    let numbers = c.args.numbers.now in
    let called = c.plotted in
    let drawn = c.in-Ok.is in
    sketch_drawn _ numbers called.ensures drawn (one_stored numbers _ (drawn_room _ numbers called.ensures drawn))
