-- `number_of` meets its contract: the library's `position`, or as many as there are.
use Rattle.std.proofs.Common.{rules, ◌∙◌, ap, Option, ℕ, nat_eq}
use Rattle.std.proofs.lemmas.Iterator.{YieldsList-from_slice}
use Rattle.std.proofs.lemmas.Iterator.Search.{position_from_yields_List}
use Rattle.std.specs.Option.{unwrap_or}
use lib.ListN.{length}
use Rattle.waves.proofs.Numbers.{number_or}
use Rattle.waves.proofs.number_of.Goals as goal

pub returns : goal.returns
returns c =
    let w = c.args.w.now in
    c.unwrap_or.ensures
    ∙ ap (λ (o : Option ℕ). unwrap_or o (length w)) (position_from_yields_List (λ x. nat_eq x c.args.b) _ _ c.position.result c.position.ensures.ran (YieldsList-from_slice w c.iter.ensures.rest) (λ x b q k. search rules))
    ∙ number_or c.args.b w
