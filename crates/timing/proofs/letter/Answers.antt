-- `letter` meets its contract: a token is taken, and refused where it is no letter of an event.
use mathlib.Core.Path.{refl, ap, ◌∙◌}
use Rattle.meaning.specs.Timing.{event_letter, letter_due}
use Rattle.words.proofs.Flow.{then}
use Rattle.timing.proofs.Making.{known_by}
use Rattle.timing.proofs.EventLetters.{told_none, told_some}
use Rattle.timing.proofs.letter.Goals as goal

pub returns : goal.returns
unfolding letter_due
returns c = let told = c.event_letter-e.ensures ∙ ap event_letter c.bytes_of.ensures in
    then _ c.step-d.ensures (known_by c.refuse_if-cursor.ensures refl (λ a h. told_none c.event_letter-e.result c.is_none.ensures told h) (λ a h. told_some c.event_letter-e.result c.is_none.ensures c.unwrap_or.ensures told h))
