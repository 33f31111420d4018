-- `lutemeteor_save` meets its contract: the answer, case by case; where a text is saved there is room for the count, and it is stored.
use Rattle.stil.proofs.Handing.{one_stored}
use Rattle.stil.proofs.Restoring.{restores_none, restores_room, restores_all}
use borrow.Author.Rules.{rules}
use Rattle.stil.proofs.lutemeteor_save.Goals as goal

pub bounds-numbers-0 : goal.bounds-numbers-0
bounds-numbers-0 c =
    let room = restores_room _ c.args.numbers.now c.save_text.ensures c.in-Ok.is in
    search rules

pub returns-in-Err : goal.returns-in-Err
returns-in-Err c = restores_none _ c.args.numbers.now c.save_text.ensures c.in-Err.is c.pack.ensures

pub returns-in-Ok : goal.returns-in-Ok
returns-in-Ok c = restores_all _ c.args.numbers.now c.save_text.ensures c.in-Ok.is (one_stored c.args.numbers.now _ (restores_room _ c.args.numbers.now c.save_text.ensures c.in-Ok.is))
