-- `chars` meets its contract: a word and three tests on it, in the order of their numbers.
use Rattle.timing.proofs.EntryReading.{chars_read}
use Rattle.timing.proofs.chars.Goals as goal

pub returns : goal.returns
returns c = chars_read c.requires.1 c.word-d.ensures c.bytes_of-w.ensures c.refuse_if-e.ensures c.repeats.ensures c.taken.ensures c.refuse_if-f.ensures c.all_chars.ensures c.refuse_if.ensures
