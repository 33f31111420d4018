-- Each number is compared.
use Rattle.memos.proofs.Rows.{short_all}
use Rattle.memos.proofs.is_short.Goals as goal

pub returns : goal.returns
returns c = short_all _
