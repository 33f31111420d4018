-- `quoted` meets its contract: a quote, a word with the bounds on its time, a quote.
use Rattle.tokens.specs.Written.{bytes}
use Rattle.meaning.specs.Timing.{quoted}
use Rattle.words.proofs.Flow.{then, given}
use Rattle.words.proofs.quoted.Goals as goal

pub returns : goal.returns
unfolding quoted bytes
returns c =
    then _ c.due-d.ensures (then _ c.word-e.ensures (then _ (c.within-t.ensures _ _ (cc)) (then _ c.due-cursor.ensures given)))
