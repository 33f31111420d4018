-- `lutemeteor_index` meets its contract: the answer, case by case; where an index is written there is room for its length, and it is stored.
use Rattle.stil.proofs.Handing.{one_stored}
use Rattle.stil.proofs.Writing.{writes_none, writes_room, writes_all}
use borrow.Author.Rules.{rules}
use Rattle.stil.proofs.lutemeteor_index.Goals as goal

pub bounds-numbers-0 : goal.bounds-numbers-0
bounds-numbers-0 c =
    let room = writes_room _ c.args.numbers.now c.write_index.ensures c.in-Ok.is in
    search rules

pub returns-in-Err : goal.returns-in-Err
returns-in-Err c = writes_none _ _ c.write_index.ensures c.in-Err.is c.pack.ensures

pub returns-in-Ok : goal.returns-in-Ok
returns-in-Ok c =
    let numbers = c.args.numbers.now in
    writes_all _ numbers c.write_index.ensures c.in-Ok.is (one_stored numbers _ (writes_room _ numbers c.write_index.ensures c.in-Ok.is))
