use Rattle.std.proofs.Common.{rules, ◌<◌}
use Rattle.std.proofs.lemmas.Grind.{get_or_default_zero}
use Rattle.std.proofs.lemmas.Iterator.{YieldsList-from_slice}
use Rattle.std.proofs.lemmas.Iterator.Adapters.{serves_from_places}
use Rattle.meaning.specs.Bounds.{signals_most}
use native.Mathlib.Omega.{arith}
use Rattle.timing.proofs.taken.Goals as goal

pub any-requires-clause-callable : goal.any-requires-clause-callable
any-requires-clause-callable c =
    serves_from_places (YieldsList-from_slice c.args.sigs.now c.iter.ensures.rest) (λ x q r. search rules) (λ x k b e.
    let low : x.now < signals_most = omega (arith, e, get_or_default_zero c.args.sigs.now k x.now b, c.requires.1 k b) in
    λ _ _ _ _ _ _ _ _ _. (c.requires.0, low))
