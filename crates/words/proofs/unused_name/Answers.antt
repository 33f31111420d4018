-- `unused_name` meets its contract: a name, and then the test whether it was found.
use mathlib.Core.Path.{refl, sym, ap, ◌∙◌}
use lib.Dec.{ltb}
use Rattle.meaning.specs.Names.{is_some, new_name}
use Rattle.words.proofs.Flow.{then, checked, given}
use Rattle.words.proofs.Words.{told_some}
use Rattle.words.proofs.unused_name.Goals as goal

pub returns : goal.returns
unfolding new_name
returns c = λ ns e.
    let args = c.args in
    then _ c.name-r.ensures
    (then _ (checked c.refuse_if.ensures (sym (told_some (ltb args.number args.count) args.number) ∙ ap is_some e) refl) given)
