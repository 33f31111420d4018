-- `name_at` meets its contract: the name of that number is there, or there are fewer.
use native.Mathlib.Omega.{arith}
use Rattle.verdicts.proofs.Naming.{name_there, name_missing}
use Rattle.verdicts.proofs.name_at.Goals as goal

pub returns-then-count-number : goal.returns-then-count-number
returns-then-count-number c =
    let args = c.args in
    name_missing _ _ {count = args.count} {n = args.number} (omega arith)

pub returns : goal.returns
returns c =
    let args = c.args in
    name_there _ _ {count = args.count} {n = args.number} (omega arith) c.number_at.ensures c.name_bytes-word.ensures
