-- `lutemeteor_report` meets its contract: the answer, case by case; where there are answers there is room for their number, and it is stored.
use Rattle.fails.specs.Fails.{fails}
use Rattle.fails.specs.Service.{rows_of}
use mathlib.Core.Path.{ap, ◌∙◌}
use Rattle.std.specs.Prelude.{Err}
use Rattle.stil.proofs.Handing.{one_stored}
use Rattle.stil.proofs.Telling.{tells_refused, tells_of, tells_room, tells_all}
use borrow.Author.Rules.{rules}
use Rattle.stil.proofs.lutemeteor_report.Goals as goal

pub bounds-numbers-0 : goal.bounds-numbers-0
bounds-numbers-0 c =
    let a = c.args in
    let room = tells_room (fails a.text.now a.report.now (rows_of a.cycles.now a.signals.now a.letters.now)) a.numbers.now c.answer_report.ensures c.in-Ok.is in
    search rules

pub returns-in-Err-Text : goal.returns-in-Err-Text
returns-in-Err-Text c = tells_refused _ _ c.answer_report.ensures (c.in-Err-Text.is ∙ ap Err c.in-Err-Text.field-0-is) c.pack.ensures

pub returns-in-Err-Report : goal.returns-in-Err-Report
returns-in-Err-Report c = tells_of _ _ c.answer_report.ensures (c.in-Err-Report.is ∙ ap Err c.in-Err-Report.field-0-is) c.pack_report.ensures

pub returns-in-Ok : goal.returns-in-Ok
returns-in-Ok c =
    let a = c.args in
    let numbers = a.numbers.now in
    tells_all _ numbers c.answer_report.ensures c.in-Ok.is (one_stored numbers _ (tells_room (fails a.text.now a.report.now (rows_of a.cycles.now a.signals.now a.letters.now)) numbers c.answer_report.ensures c.in-Ok.is))
