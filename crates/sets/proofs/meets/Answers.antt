use mathlib.Core.Path.{◌∙◌}
use Rattle.std.proofs.Common.{rules}
use Rattle.std.proofs.lemmas.Iterator.{YieldsList-from_slice}
use Rattle.std.proofs.lemmas.Iterator.Search.{any_from_yields_List}
use Rattle.meaning.specs.Lists.{has}
use Rattle.sets.specs.Sets.{list_of}
use Rattle.sets.proofs.Sets.{meets_any}
use Rattle.sets.proofs.meets.Goals as goal

pub returns : goal.returns
returns c =
    let x = list_of c.args.x in
    let g = list_of c.args.g in
    any_from_yields_List (λ s. has s g) _ _ _ c.any.ensures.ran (YieldsList-from_slice x cc) (λ x b q k. search rules) ∙ meets_any x g
