-- Each number is compared.
use Rattle.memos.proofs.Rows.{near_all}
use Rattle.memos.proofs.is_near.Goals as goal

pub returns : goal.returns
returns c = near_all _
