-- `new_name` meets its contract: what is found for the word ahead, and then the name.
use Rattle.words.proofs.new_name.Goals as goal

pub returns : goal.returns
returns c = c.unused_name.ensures _ (cc)
