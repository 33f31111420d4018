-- `loses` meets its contract: some pair of pins has a value only before.
use Prim.Native.Nat.{ℕ}
use mathlib.Core.Bool.{not, ◌&&◌}
use mathlib.Core.Path.{◌∙◌}
use lib.Dec.{eqb}
use borrow.Author.Rules.{rules}
use borrow.Author.Tests.{tests}
use Rattle.std.proofs.lemmas.Iterator.{YieldsList-from_slice, YieldsList-from_zip}
use Rattle.std.proofs.lemmas.Iterator.Search.{any_from_yields_List}
use Rattle.stretches.proofs.Laws.{loses_any}
use Rattle.stretches.proofs.loses.Goals as goal

pub returns : goal.returns
returns c =
    any_from_yields_List (λ (p : ℕ × ℕ). not (eqb p.0 0) && eqb p.1 0) c.any.new.self _ _ c.any.ensures.ran
    (YieldsList-from_zip (YieldsList-from_slice c.args.old.now cc) (YieldsList-from_slice c.args.new.now cc)) (λ x b q k. search (rules, tests))
    ∙ loses_any c.args.old.now c.args.new.now
