-- `known_name` meets its contract: a name, and then what was found for it. Both are looked at before the step, which needs neither.
use mathlib.Core.Path.{refl}
use Rattle.meaning.specs.Names.{name, old_name}
use Rattle.words.proofs.Flow.{then, checked, given}
use Rattle.words.proofs.Tables.{known_by}
use Rattle.words.proofs.known_name.Goals as goal

pub returns : goal.returns
unfolding old_name name
returns c = λ ns e.
    let count = c.args.count in
    then _
    (then _ c.word-d.ensures (then _ (checked c.refuse_if-r.ensures (cc) refl) given))
    (then _ (known_by count c.refuse_if-cursor.ensures e refl) given)
