-- `onward` meets its contract. The invariant: from here the rest is gone over as all was from `at`, and line and column are numbers that a machine keeps.
use Prim.Native.Nat.{◌+◌}
use mathlib.Core.Path.{sym, ◌∙◌, ap, subst}
use native.Mathlib.Omega.{arith}
use lib.ListN.{drop}
use Rattle.columns.specs.Columns.{onward, capped}
use Rattle.columns.proofs.Laws.{Kept, onward_one, onward_over, onward_capped, capped_kept, keeps_capped}
use Rattle.columns.proofs.onward.Goals as goal

pub loop-b-preserved : goal.loop-b-preserved
loop-b-preserved c =
    let bytes = c.args.bytes.now in
    let i = c.loop-b.b-index in
    let inv = c.loop-b.invariant in (
      inv.0 ∙ ap capped (onward_one _ bytes i c.loop-b-test.true) ∙ sym (onward_capped _ (drop (i + 1) bytes)) ∙ ap (λ q. capped (onward q (drop (i + 1) bytes))) (sym c.past-p.ensures),
      subst Kept (sym c.past-p.ensures) (keeps_capped _),
    )

pub returns : goal.returns
returns c =
    let inv = c.loop-b.invariant in
    capped_kept _ inv.1 ∙ sym (inv.0 ∙ ap capped (onward_over _ c.args.bytes.now c.loop-b.b-index (omega arith)))
