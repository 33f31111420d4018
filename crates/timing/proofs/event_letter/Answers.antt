-- `event_letter` meets its contract: only a word of one byte is the letter of an event.
use mathlib.Core.Path.{sym, ◌∙◌}
use Rattle.words.proofs.Words.{or_both}
use Rattle.timing.proofs.EventLetters.{letter_not, letter_is, letter_other}
use Rattle.timing.proofs.event_letter.Goals as goal

pub returns-then-w-ne1 : goal.returns-then-w-ne1
returns-then-w-ne1 c = letter_not _ c.if-w-ne1.true

pub returns-then-drives-compares : goal.returns-then-drives-compares
returns-then-drives-compares c = letter_is _ c.if-w-ne1.false (or_both (sym c.drives.ensures) (sym c.compares.ensures) ∙ c.if-drives-compares.true)

pub returns : goal.returns
returns c = letter_other _ c.if-w-ne1.false (or_both (sym c.drives.ensures) (sym c.compares.ensures) ∙ c.if-drives-compares.false)
