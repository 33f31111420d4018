-- `state` meets its contract: a quote, one of four words, a quote.
use mathlib.Core.Path.{sym, ap, ◌∙◌}
use Prim.Native.Nat.{ℕ}
use mathlib.Core.List.{List}
use lib.ListN.{get_or}
use Rattle.tokens.specs.Written.{bytes}
use Rattle.words.proofs.Flow.{then, given, valued, tested}
use Rattle.reports.specs.Report.{is_state, state as state_due}
use Rattle.reports.proofs.state.Goals as goal

pub returns : goal.returns
unfolding state_due bytes
returns c =
    let letter = c.first_byte-letter.ensures ∙ ap (λ (w : List ℕ). get_or w 0 0) c.bytes_of-w.ensures in
    let right = c.is_state-right.ensures ∙ ap is_state c.bytes_of-w.ensures in
    then _ c.due-a.ensures
    (then _ (tested _ (λ t. is_state t.word) (λ t. get_or t.word 0 0) c.expect-b.ensures right) (then _ c.due-cursor.ensures (valued given (λ h. sym letter))))
