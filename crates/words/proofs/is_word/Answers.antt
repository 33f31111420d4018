-- `is_word` meets its contract: a word is known by its first byte.
use mathlib.Core.Path.{sym, ◌∙◌}
use Rattle.words.proofs.Words.{word_first, word_none}
use Rattle.words.proofs.is_word.Goals as goal

pub returns-then-w-gt0 : goal.returns-then-w-gt0
returns-then-w-gt0 c = c.is_wordy.ensures ∙ sym (word_first _ c.if-w-gt0.true)

pub returns-else-w-gt0 : goal.returns-else-w-gt0
returns-else-w-gt0 c = sym (word_none _ c.if-w-gt0.false)
