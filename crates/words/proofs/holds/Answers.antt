use mathlib.Core.Path.{◌∙◌}
use lib.Dec.{eqb}
use Rattle.std.proofs.Common.{rules}
use Rattle.std.proofs.lemmas.Iterator.{YieldsList-from_slice}
use Rattle.std.proofs.lemmas.Iterator.Search.{any_from_yields_List}
use Rattle.meaning.proofs.Lists.{has_any}
use Rattle.words.proofs.holds.Goals as goal

pub returns : goal.returns
returns c =
    let w = c.args.w.now in
    let b = c.args.b in
    any_from_yields_List (λ x. eqb x b) _ _ _ c.any.ensures.ran (YieldsList-from_slice w cc) (λ x r q k. search rules) ∙ has_any b w
