use mathlib.Core.Path.{◌∙◌}
use lib.Dec.{eqb}
use Rattle.std.proofs.Common.{rules}
use Rattle.std.proofs.lemmas.Iterator.{YieldsList-from_slice}
use Rattle.std.proofs.lemmas.Iterator.Search.{any_from_yields_List}
use Rattle.meaning.proofs.Lists.{has_any}
use Rattle.sets.proofs.among.Goals as goal

pub returns : goal.returns
returns c =
    let x = c.args.x in
    let numbers = c.args.numbers.now in
    any_from_yields_List (λ y. eqb y x) _ _ _ c.any.ensures.ran (YieldsList-from_slice numbers cc) (λ y r q k. search rules) ∙ has_any x numbers
