use Rattle.std.proofs.Common.{rules, ◌∙◌, nat_eq}
use Rattle.std.proofs.lemmas.Iterator.{YieldsList-from_slice}
use Rattle.std.proofs.lemmas.Iterator.Search.{any_from_yields_List}
use Rattle.timing.proofs.Marking.{has_any}
use Rattle.timing.proofs.lists_signal.Goals as goal

pub returns : goal.returns
returns c =
    any_from_yields_List (λ x. nat_eq x c.args.s) _ _ c.any.result c.any.ensures.ran (YieldsList-from_slice c.args.sigs.now c.iter.ensures.rest) (λ x b q k. search rules)
    ∙ has_any c.args.s c.args.sigs.now
