-- Each number is compared.
use Rattle.memos.proofs.Rows.{notes_all}
use Rattle.memos.proofs.is_noted.Goals as goal

pub returns : goal.returns
returns c = notes_all _ _ _ c.from.ensures c.from-2.ensures c.from-3.ensures c.from-4.ensures
