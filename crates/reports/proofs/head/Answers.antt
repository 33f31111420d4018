-- `head` meets its contract: a name, and a name that is found among the signals of the text.
use mathlib.Core.Path.{refl}
use lib.Dec.{ltb}
use Rattle.meaning.specs.Names.{old_name}
use Rattle.words.proofs.Flow.{then, given}
use Rattle.reports.proofs.Laws.{known_told}
use Rattle.reports.specs.Report.{head as head_due}
use Rattle.reports.proofs.head.Goals as goal

pub returns : goal.returns
unfolding head_due old_name
returns c =
    let count = c.args.count in
    then _ c.name-a.ensures
    (then _ (then _ c.name-b.ensures (then _ (known_told (ltb c.find-signal.result count) c.refuse_if-cursor.ensures (cc) refl) given)) given)
