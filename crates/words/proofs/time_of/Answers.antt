-- `time_of` meets its contract: a word with the bounds on its time.
use Rattle.words.proofs.Signs.{time_counts}
use Rattle.words.proofs.time_of.Goals as goal

pub returns : goal.returns
returns c =
    time_counts _ c.word-d.ensures (c.within-t.ensures _ _ (cc)) c.counted-n.ensures
