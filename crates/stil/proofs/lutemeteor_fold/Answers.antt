-- `lutemeteor_fold` meets its contract: the answer, case by case; where a text is folded there is room for its length, and it is stored.
use Rattle.stil.proofs.Handing.{one_stored}
use Rattle.stil.proofs.Flattening.{flattens_none, flattens_room, flattens_all}
use borrow.Author.Rules.{rules}
use Rattle.stil.proofs.lutemeteor_fold.Goals as goal

pub bounds-numbers-0 : goal.bounds-numbers-0
bounds-numbers-0 c =
    let room = flattens_room _ c.args.numbers.now c.fold_text.ensures c.in-Ok.is in
    search rules

pub returns-in-Err : goal.returns-in-Err
returns-in-Err c = flattens_none _ _ c.fold_text.ensures c.in-Err.is c.pack.ensures

pub returns-in-Ok : goal.returns-in-Ok
returns-in-Ok c =
    let numbers = c.args.numbers.now in
    flattens_all _ numbers c.fold_text.ensures c.in-Ok.is (one_stored numbers _ (flattens_room _ numbers c.fold_text.ensures c.in-Ok.is))
