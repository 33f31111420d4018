-- `sign_ahead` meets its contract: two tests, one behind the other.
use mathlib.Core.Path.{◌∙◌}
use Rattle.tokens.specs.Written.{bytes}
use Rattle.meaning.specs.Reader.{ahead}
use Rattle.meaning.specs.Groups.{sign_ahead}
use Rattle.words.specs.Cursor.{alive, stream}
use Rattle.words.proofs.Words.{or_both}
use Rattle.signals.proofs.Joining.{or_and}
use Rattle.signals.proofs.sign_ahead.Goals as goal

pub returns : goal.returns
unfolding sign_ahead bytes
returns c =
    let args' = c.args in
    let is' = c.is in
    let tokens = stream args'.text.now args'.c in
    or_both is'.ensures c.is-2.ensures ∙ or_and (alive args'.c) (ahead "+" tokens) (ahead "-" tokens)
