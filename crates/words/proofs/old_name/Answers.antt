-- `old_name` meets its contract: what is found for the word ahead, and then the name.
use Rattle.words.proofs.old_name.Goals as goal

pub returns : goal.returns
returns c = c.known_name.ensures _ (cc)
