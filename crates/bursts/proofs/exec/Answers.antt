-- `exec` meets its contract: the burst's name is the one name of a table of one.
use Rattle.tokens.specs.Written.{bytes}
use Rattle.meaning.specs.Document.{exec as exec_due}
use Rattle.words.specs.Table.{names_from}
use Rattle.words.proofs.Flow.{then}
use Rattle.bursts.proofs.exec.Goals as goal

pub returns : goal.returns
unfolding exec_due names_from bytes
returns c =
    let due' = c.due-a in
    let due2' = c.due-b in
    let due3' = c.due-d in
    let old-name' = c.old_name-x in
    let due4' = c.due-f in
    then _ due'.ensures (then _ due2'.ensures (then _ due3'.ensures (then _ old-name'.ensures (then _ due4'.ensures c.due-cursor.ensures))))
