-- `lutemeteor_window` meets its contract: the answer, case by case; where rows are given there is room for two numbers, and two stores to the front.
use borrow.Author.Rules.{rules}
use Rattle.stil.proofs.Handing.{two_stored}
use Rattle.stil.proofs.Opening.{opens_none, opens_room, opens_all}
use Rattle.stil.proofs.lutemeteor_window.Goals as goal

pub bounds-numbers-0 : goal.bounds-numbers-0
bounds-numbers-0 c =
    let room = opens_room _ c.args.numbers.now c.viewed.ensures c.in-Ok.is in
    search rules

pub bounds-numbers-1 : goal.bounds-numbers-1
bounds-numbers-1 c =
    let room = opens_room _ c.args.numbers.now c.viewed.ensures c.in-Ok.is in
    search rules

pub returns-in-Err : goal.returns-in-Err
returns-in-Err c =
    opens_none _ _ c.viewed.ensures c.in-Err.is c.pack.ensures

pub returns-in-Ok : goal.returns-in-Ok
returns-in-Ok c =
    let rows = c.in-Ok.is in
    let numbers = c.args.numbers.now in
    opens_all _ numbers c.viewed.ensures rows (two_stored numbers _ _ (opens_room _ numbers c.viewed.ensures rows))
