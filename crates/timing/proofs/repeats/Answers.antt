-- `repeats` meets its contract: each byte is looked for behind its own place.
use Rattle.std.proofs.Common.{rules, arith, ◌≡◌, ◌∙◌, refl, ap, ℕ, ◌+◌, nat_eq}
use Rattle.std.proofs.lemmas.Iterator.{YieldsList-from_slice}
use Rattle.std.proofs.lemmas.Iterator.Search.{any_from_yields_List}
use Rattle.std.proofs.lemmas.Iterator.Consumers.{YieldsList-from_enumerate}
use Rattle.std.proofs.lemmas.Slice.{between_to_end}
use Rattle.std.specs.List.{list_any, between}
use lib.ListN.{length, drop}
use Rattle.meaning.specs.Lists.{has}
use Rattle.timing.proofs.Marking.{has_any, repeats_any}
use Rattle.timing.proofs.repeats.Goals as goal

pub returns : goal.returns
returns c =
    let w = c.args.w.now in
    any_from_yields_List (λ (p : ℕ × ℕ). has p.1 (drop (p.0 + 1) w)) _ _ c.any.result c.any.ensures.ran (YieldsList-from_enumerate (YieldsList-from_slice w cc) cc) (λ x b q k.
    let told : (q ≡ record { 0 = c.args.w }) × (b ≡ list_any (λ y. nat_eq y x.1.now) (between (x.0 + 1) (length w) w)) = search rules in
    (told.0, told.1 ∙ has_any x.1.now (between (x.0 + 1) (length w) w) ∙ ap (has x.1.now) (between_to_end w (x.0 + 1) (length w) (omega arith))))
    ∙ repeats_any w 0 w refl
