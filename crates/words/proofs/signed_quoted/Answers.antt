-- `signed_quoted` meets its contract: a quote, a time with its sign, a quote.
use Rattle.tokens.specs.Written.{bytes}
use Rattle.words.proofs.Signs.{quoted_counts}
use Rattle.words.proofs.signed_quoted.Goals as goal

pub returns : goal.returns
unfolding bytes
returns c = quoted_counts c.due-d.ensures c.signed-t.ensures c.due-cursor.ensures
