-- `in_shift` meets its contract: where nothing was refused, the signals with `#` are marked in the row, and what the V gives is noted.
use borrow.Author.Tests.{ne_eqb}
use Rattle.tokens.specs.Written.{bytes}
use Rattle.tokens.proofs.Bools.{true_false}
use Rattle.assigns.proofs.Table.{gave_zeros}
use Rattle.noted.proofs.Marking.{grows_none}
use Rattle.bodies.proofs.Shifting.{in_shift_lem}
use Rattle.bodies.proofs.in_shift.Goals as goal

pub assigns-b-requires : goal.assigns-b-requires
assigns-b-requires c =
    let pre' = c.requires in
    (pre'.0, gave_zeros)

pub returns-then-r-ne0 : goal.returns-then-r-ne0
unfolding bytes
returns-then-r-ne0 c =
    let pre' = c.requires in
    let due' = c.due-a in
    let assigns' = c.assigns-b in
    let due2' = c.due-d in
    let has-mark' = c.has_mark in
    let refuse-if' = c.refuse_if-r in (
      in_shift_lem pre'.0.usable.tidy due'.ensures assigns'.ensures due2'.ensures has-mark'.ensures refuse-if'.ensures
          (λ live. true_false live (ne_eqb _ _ c.if-r-ne0.true)) (λ live. true_false live (ne_eqb _ _ c.if-r-ne0.true)),
      grows_none,
    )

pub mark_uses-requires : goal.mark_uses-requires
mark_uses-requires c =
    let pre' = c.requires in
    let assigns' = c.assigns-b in
    (assigns'.ensures.long, pre'.1)

pub note-requires : goal.note-requires
note-requires c =
    let pre' = c.requires in
    let assigns' = c.assigns-b in
    (assigns'.ensures.long, pre'.2)

pub returns : goal.returns
unfolding bytes
returns c =
    let pre' = c.requires in
    let args' = c.args in
    let due' = c.due-a in
    let assigns' = c.assigns-b in
    let due2' = c.due-d in
    let has-mark' = c.has_mark in
    let refuse-if' = c.refuse_if-r in
    let mark-uses' = c.mark_uses in
    let note' = c.note in (
      in_shift_lem pre'.0.usable.tidy due'.ensures assigns'.ensures due2'.ensures has-mark'.ensures refuse-if'.ensures
          (λ live f. mark-uses'.ensures args'.c.at assigns'.ensures.it f) (λ live. note'.ensures.1),
      note'.ensures.0,
    )
