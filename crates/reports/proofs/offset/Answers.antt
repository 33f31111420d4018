-- `offset` meets its contract: a word with the bounds on its number, and a letter where a quote stands behind it.
use Prim.Native.Nat.{ℕ}
use mathlib.Core.Path.{ap, ◌∙◌}
use mathlib.Core.List.{List}
use Rattle.tokens.specs.Written.{bytes}
use Rattle.meaning.specs.Reader.{give}
use Rattle.meaning.specs.Bounds.{cycles_most}
use Rattle.meaning.specs.Names.{number}
use Rattle.words.specs.Values.{up_to}
use Rattle.words.proofs.Flow.{then, given}
use Rattle.words.proofs.Choice.{ahead_yes, ahead_no}
use Rattle.reports.specs.Report.{state as state_due, offset as offset_due}
use Rattle.reports.proofs.Laws.{number_read}
use Rattle.reports.proofs.offset.Goals as goal

pub returns-then-is : goal.returns-then-is
unfolding offset_due bytes
returns-then-is c =
    then _ c.word-d.ensures
    (then _ (number_read c.number_up_to-v.result _ c.is_none.ensures c.refuse_if-e.ensures (c.number_up_to-v.ensures ∙ ap (λ (w : List ℕ). up_to cycles_most (number w)) c.bytes_of.ensures) c.unwrap_or-n.ensures)
    (then _ (ahead_yes "'" state_due (give 0) c.is.ensures c.if-is.true c.state-s.ensures) given))

pub returns : goal.returns
unfolding offset_due bytes
returns c =
    then _ c.word-d.ensures
    (then _ (number_read c.number_up_to-v.result _ c.is_none.ensures c.refuse_if-e.ensures (c.number_up_to-v.ensures ∙ ap (λ (w : List ℕ). up_to cycles_most (number w)) c.bytes_of.ensures) c.unwrap_or-n.ensures)
    (then _ (ahead_no "'" state_due (give 0) c.is.ensures c.if-is.false given) given))
