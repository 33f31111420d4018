-- `position_of` meets its contract: the bytes before the place are gone over from the text's start; no slice is so long that a line's or a column's number would be too large.
use native.Mathlib.Omega.{arith}
use mathlib.Core.Path.{sym, ◌∙◌, ap}
use Rattle.columns.specs.Columns.{capped}
use Rattle.columns.proofs.Laws.{from_start, from_start_over, capped_kept, position_kept}
use Rattle.columns.proofs.position_of.Goals as goal

pub returns-then-place-text : goal.returns-then-place-text
returns-then-place-text c =
    c.onward.ensures ∙ ap capped (from_start _ _ _ c.start.ensures) ∙ sym (capped_kept _ (position_kept _ _ c.well_formed.0.1))

pub returns : goal.returns
returns c =
    c.onward-2.ensures ∙ ap capped (from_start_over c.args.text.now c.args.place _ c.start-2.ensures (omega arith)) ∙ sym (capped_kept _ (position_kept _ _ c.well_formed.0.1))
