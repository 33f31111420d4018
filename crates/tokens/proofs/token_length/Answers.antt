-- `token_length` meets its contract: a word runs to its last byte, and any other token is one byte.
use mathlib.Core.Path.{sym, ◌∙◌}
use Rattle.tokens.proofs.Reading.{word_found, sign_found}
use Rattle.tokens.proofs.token_length.Goals as goal

pub returns-then-is_wordy : goal.returns-then-is_wordy
returns-then-is_wordy c =
    word_found _ _ _ _ c.requires (sym c.is_wordy.ensures ∙ c.if-is_wordy.true)
    c.word_end-end.ensures

pub returns : goal.returns
returns c = sign_found _ _ _ c.requires (sym c.is_wordy.ensures ∙ c.if-is_wordy.false)
